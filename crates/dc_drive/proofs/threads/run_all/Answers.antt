use Rattle.std.proofs.Common.{◌++◌}
use Rattle.dc_drive.specs.Played.{itself, out_with, seat_of_wire}
use Rattle.dc_drive.proofs.Same.{all-trans}
use Rattle.dc_drive.proofs.threads.run_all.Goals as goal

pub returns-clause-wires : goal.returns-clause-wires
returns-clause-wires g c =
    all-trans seat_of_wire c.args.cast.wires.items (c.start_all-started.new.seats.items ++ out_with (λ h. h.promise.seat.value) c.start_all-started.new.children.items) c.join_all.new.seats.items
    c.start_all-started.ensures.same c.join_all.ensures.same

pub returns-clause-routers : goal.returns-clause-routers
returns-clause-routers g c =
    all-trans itself c.args.cast.routers.items (c.start_all-started-2.new.seats.items ++ out_with (λ h. h.promise.seat.value) c.start_all-started-2.new.children.items) c.join_all-2.new.seats.items
    c.start_all-started-2.ensures.same c.join_all-2.ensures.same

pub returns-clause-outputs : goal.returns-clause-outputs
returns-clause-outputs g c =
    all-trans itself c.args.cast.outputs.items (c.start_all-started-3.new.seats.items ++ out_with (λ h. h.promise.seat.value) c.start_all-started-3.new.children.items) c.join_all-3.new.seats.items
    c.start_all-started-3.ensures.same c.join_all-3.ensures.same
