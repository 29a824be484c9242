-- A cap below another, where there is one.
use Rattle.std.specs.Prelude.{ℕ, min, Option, Some, None}

-- the lesser of two caps; the first alone where there is no second bound
abbrev pub under : {L : Type 0} → (L → ℕ → ℕ) → Option L → ℕ → ℕ → ℕ
under cap None d n = n
under cap (Some x) d n = min n (cap x d)
