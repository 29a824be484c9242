-- A queue that keeps up.
use Rattle.std.proofs.Common.{◌≡◌, ℕ, ◌+◌, ◌≤◌, ◌<◌, None, List, ◌++◌, length}
use Rattle.dc_bound.specs.Moves.{Move, ticks_in, ins, passed, latch, entered, taken, routed_tick, arrived_tick}

-- it is never full, whatever place of the moves one looks at
abbrev pub NeverFull : ℕ → List Move → Type 0
NeverFull room ms = (pre post : List Move) → ms ≡ pre ++ post → length (ins pre) ≤ room + passed pre

-- what has come in by a place of tick t has been handed on by the end of tick t + delay, where that tick is whole
abbrev pub HandsOn : ℕ → List Move → Type 0
HandsOn delay ms = (pre mid post : List Move) → ms ≡ pre ++ (mid ++ post) → delay < ticks_in mid → length (ins pre) ≤ passed (pre ++ mid)

-- a queue that never latches, and takes each word by the end of `delay` ticks after the one it came in
pub record KeepsUp (room delay : ℕ) (ms : List Move) : Type 0 where
  pub unlatched : latch room ms ≡ None
  pub all_entered : entered room ms ≡ ins ms
  -- an item that came in tick a has been taken where tick a + delay is whole
  pub in_time : (n : ℕ) → n < length (ins ms) → arrived_tick n ms + delay < ticks_in ms → n < taken room ms
  -- and one that was taken was taken in tick a + delay or before
  pub routed : (n : ℕ) → n < taken room ms → routed_tick room n ms ≤ arrived_tick n ms + delay
