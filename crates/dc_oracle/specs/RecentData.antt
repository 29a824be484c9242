-- What a clause sees of the last steps of an actor.
use Rattle.std.specs.Prelude.{ℕ, List}

pub record RecentData : Type 0 where
  pub ticks : List ℕ
  pub room : ℕ
