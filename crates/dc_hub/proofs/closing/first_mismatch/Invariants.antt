use Rattle.std.specs.Prelude.{◌≡◌, ℕ, ◌<◌, Some, slice_get}
use Rattle.dc_hub.specs.Closing.{all_seats, Agrees}
use Rattle.dc_hub.specs.Views.{SeatView}
use Rattle.dc_hub.proofs.closing.first_mismatch.Given as goal

abbrev pub invariant-loop-place : goal.invariant-loop-place
invariant-loop-place g l =
    (p : ℕ) (s : SeatView) → p < l.place → slice_get (all_seats l.seats.wires.items l.seats.routers.items l.seats.outputs.items l.seats.clock) p ≡ Some s → Agrees l.entries s
