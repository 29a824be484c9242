use Rattle.std.specs.Prelude.{◌≡◌, ◌+◌}
use Rattle.dc_event.specs.declared.event.Actor.TheVariants.{Output}
use Rattle.dc_hub.specs.Views.{AreNewSeats}
use Rattle.dc_hub.proofs.opening.output_seats.Given as goal

abbrev pub invariant-loop-output : goal.invariant-loop-output
invariant-loop-output g l = AreNewSeats Output l.seats.items l.output × (l.rest.parts + l.output ≡ l.fn.rest.parts) × (l.rest.amount ≡ 0)
