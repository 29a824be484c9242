-- What a clause sees of the log of a bus: the words that wait, as (tick, (number of the stream, word)); the last that was taken, as (tick in which it came,
-- number of the stream); whether the bus has latched; and how many words its queue holds.
use Rattle.std.specs.Prelude.{ℕ, Bool, Option, List}

-- the words that entered the queue as (number of the stream, word), how many were taken, and whether the bus has latched
pub record BusData : Type 0 where
  pub words : List (ℕ × (ℕ × ℕ))
  pub last : Option (ℕ × ℕ)
  pub latched : Bool
  pub room : ℕ
