-- Which declared SDIs one word may fit.
use Rattle.std.specs.Prelude.{ℕ, Bool, true, ◌==◌, Option, Some, None}

-- two declarations that one word may fit
abbrev pub sdis_meet : Option ℕ → Option ℕ → Bool
sdis_meet None b = true
sdis_meet (Some a) None = true
sdis_meet (Some a) (Some b) = a == b
