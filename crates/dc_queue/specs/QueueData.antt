-- What a clause sees of a receive queue.
use Rattle.std.specs.Prelude.{ℕ, List}

-- the words, the oldest first, and how many there may be
pub record QueueData : Type 0 where
  pub words : List ℕ
  pub limit : ℕ
