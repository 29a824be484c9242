-- Entries in the order of their outputs.
use Rattle.std.specs.Prelude.{ℕ, ◌≤◌, List, [], ◌∷◌}
use Rattle.dc_rules.specs.declared.keys.PlacedEntry.{PlacedEntry}

-- each is of the same output as the one before it or of a later one, and the first of output m or later
abbrev pub AreFrom : ℕ → List PlacedEntry → Type 0
AreFrom m [] = Unit {0}
AreFrom m (x ∷ xs) = (m ≤ x.output) × AreFrom x.output xs
