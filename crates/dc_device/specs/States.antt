-- What is known of a device: one record for a source, one for a sink.
use Rattle.std.specs.Prelude.{ℕ, ◌+◌, ◌^◌, ◌<◌, ◌≤◌, Bool, List, Option}

-- a source, from which a command reads: what is still to come, and how its calls went
pub record SourceState : Type 0 where
  -- the bytes that are still to come, where they are known
  pub remaining : Option (List ℕ)
  -- how many calls have failed
  pub failed : ℕ
  -- how often it was pulled, counted up to 2^64 - 1
  pub asked : ℕ
  -- how many of these pulls gave no byte, counted so too
  pub dry : ℕ

-- a sink, to which a command writes: what it holds, how its calls went, and what others see of it
pub record SinkState : Type 0 where
  -- the bytes that it holds, where they are known
  pub contents : Option (List ℕ)
  -- how many calls have failed
  pub failed : ℕ
  -- whether the last call failed
  pub last_failed : Bool
  -- whether it took bytes that not everyone sees
  pub hidden : Bool
  -- what everyone saw of it when a source was last asked for more, where that is known
  pub answered : Option (List ℕ)

-- one more failure of a source can be counted
abbrev pub IsCountable : SourceState → Type 0
IsCountable s = s.failed + 1 < 2 ^ 64

-- one more failure of a sink can be counted
abbrev pub CanFail : SinkState → Type 0
CanFail k = k.failed + 1 < 2 ^ 64

-- A source that may give so many bytes was pulled at most once more than that, and at most one pull gave none.
abbrev pub AsksUpTo : ℕ → SourceState → SourceState → Type 0
AsksUpTo limit s s' = (s'.asked ≤ s.asked + limit + 1) × (s'.dry ≤ s.dry + 1)
