use Rattle.std.specs.Prelude.{◌≡◌, ◌+◌}
use Rattle.dc_board.specs.Marks.{IsSeatOf}
use Rattle.dc_hub.specs.Views.{AreNewWires, stepped}
use Rattle.dc_hub.proofs.opening.wire_seats.Given as goal

abbrev pub invariant-loop-bus : goal.invariant-loop-bus
invariant-loop-bus g l = AreNewWires l.board l.wires.items l.bus × IsSeatOf l.board l.watch × (l.watch.1 ≡ stepped l.bus l.fn.watch.1) × (l.rest.parts + l.bus ≡ l.fn.rest.parts) × (l.rest.amount ≡ 0)
