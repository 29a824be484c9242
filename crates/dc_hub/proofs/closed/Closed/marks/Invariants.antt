use Rattle.std.specs.Prelude.{◌≡◌, ℕ, ◌<◌, take, slice_index}
use Rattle.dc_event.specs.declared.event.Actor.TheVariants.{Wire}
use Rattle.dc_hub.specs.Closing.{receipts_of}
use Rattle.dc_hub.specs.Views.{greatest}
use Rattle.dc_hub.proofs.closed.Closed.marks.Given as goal

abbrev pub invariant-loop-i : goal.invariant-loop-i
invariant-loop-i l = (bus : ℕ) → bus < 64 → slice_index l.marks bus ≡ greatest (receipts_of (Wire bus) (take l.i l.self.entries))
