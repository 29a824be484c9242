use Rattle.std.proofs.Common.{subst, sym}
use Rattle.dc_hub.specs.Closing.{all_seats, AreOneEach}
use Rattle.dc_hub.proofs.closing.close_fault.Goals as goal

pub returns-then-not-are_one_each : goal.returns-then-not-are_one_each
returns-then-not-are_one_each g c = λ each.
    c.are_one_each.ensures.no c.if-not-are_one_each.true
    (subst (λ t. AreOneEach t (all_seats c.args.seats.now.wires.items c.args.seats.now.routers.items c.args.seats.now.outputs.items c.args.seats.now.clock)) (sym c.tables-tables.ensures) each)
