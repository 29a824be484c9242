-- Lists of entries of several members, that tell their member by their tag.
use Rattle.std.specs.Prelude.{ℕ, ◌+◌, ◌<◌, ◌≤◌, suc, List, [], ◌∷◌, length, filter, eqb, All}

-- the entries of one tag
abbrev pub with_tag : ℕ → List (ℕ × ℕ) → List (ℕ × ℕ)
with_tag i xs = filter (λ e. eqb e.1 i) xs

-- each member, the first of tag i, allows its own entries
unfoldable pub EachAllows : {B : Type 0} → (B → List (ℕ × ℕ) → Type 0) → ℕ → List B → List (ℕ × ℕ) → Type 0
EachAllows P i [] xs = Unit {0}
EachAllows P i (b ∷ bs) xs = P b (with_tag i xs) × EachAllows P (suc i) bs xs

-- each tag is a member's, the first of tag i, and each member allows its own entries
pub record SumAllows {B : Type 0} (P : B → List (ℕ × ℕ) → Type 0) (i : ℕ) (bs : List B) (xs : List (ℕ × ℕ)) : Type 0 where
  pub from : All (λ e. i ≤ e.1) xs
  pub below : All (λ e. e.1 < i + length bs) xs
  pub each : EachAllows P i bs xs
