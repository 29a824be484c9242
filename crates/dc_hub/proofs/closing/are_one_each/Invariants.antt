use Rattle.std.specs.Prelude.{◌≡◌, ℕ, ◌<◌, Some, slice_get}
use Rattle.dc_hub.specs.Closing.{all_seats, actor_at}
use Rattle.dc_hub.specs.Views.{SeatView}
use Rattle.dc_hub.proofs.closing.are_one_each.Given as goal

abbrev pub invariant-loop-place : goal.invariant-loop-place
invariant-loop-place g l =
    (p : ℕ) → p < l.place → (s : SeatView) × (slice_get (all_seats l.seats.wires.items l.seats.routers.items l.seats.outputs.items l.seats.clock) p ≡ Some s) × (s.actor ≡ actor_at l.tables p)
