use Rattle.std.specs.Prelude.{◌≡◌, ◌+◌}
use Rattle.dc_event.specs.declared.event.Actor.TheVariants.{Router}
use Rattle.dc_hub.specs.Views.{AreNewSeats}
use Rattle.dc_hub.proofs.opening.router_seats.Given as goal

abbrev pub invariant-loop-router : goal.invariant-loop-router
invariant-loop-router g l = AreNewSeats Router l.seats.items l.router × (l.rest.parts + l.router ≡ l.fn.rest.parts) × (l.rest.amount ≡ 0)
