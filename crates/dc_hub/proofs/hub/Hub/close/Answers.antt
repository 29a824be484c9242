use Rattle.std.proofs.Common.{List}
use Rattle.dc_hub.specs.Closing.{all_seats}
use Rattle.dc_hub.specs.Views.{SeatView}
use Rattle.dc_hub.proofs.Closes.{closed_of, counted_of, fault_of}
use Rattle.dc_hub.proofs.hub.Hub.close.Goals as goal

pub returns-clause-same : goal.returns-clause-same
returns-clause-same g c = closed_of g.L.Charter.certified g.L.Charter.limit c.into_inner-book.result c.close.result c.of_hub.ensures c.close.ensures.same

pub returns-clause-as_many : goal.returns-clause-as_many
returns-clause-as_many g c =
    let s = c.args.seats in
    let seats : List SeatView = all_seats s.wires.items s.routers.items s.outputs.items s.clock in
    counted_of c.into_inner-book.result seats c.close.result c.close.ensures.as_many c.close.ensures.same c.close.ensures.ok

pub returns-clause-err : goal.returns-clause-err
returns-clause-err g c =
    let s = c.args.seats in
    let seats : List SeatView = all_seats s.wires.items s.routers.items s.outputs.items s.clock in
    fault_of g.L.Charter.certified g.L.Charter.limit c.into_inner-book.result seats c.close.result c.of_hub.ensures c.close.ensures.as_many c.close.ensures.err
