-- Lists whose members are related one by one.
use Rattle.std.specs.Prelude.{List, [], ◌∷◌}

-- as many members, of which each is related to the one at its place
abbrev pub ArePaired : {X : Type 0} → (X → X → Type 0) → List X → List X → Type 0
ArePaired R [] [] = Unit {0}
ArePaired R [] (y ∷ ys) = ⊥
ArePaired R (x ∷ xs) [] = ⊥
ArePaired R (x ∷ xs) (y ∷ ys) = R x y × ArePaired R xs ys
