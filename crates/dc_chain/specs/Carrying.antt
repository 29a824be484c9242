-- What a link carries from where it was sent to where it comes.
use Rattle.std.specs.Prelude.{◌≡◌, ℕ, ◌+◌, ◌≤◌, ◌⊎◌, eqb, List, [], ◌∷◌, filter}

-- What comes, as (time, (number, word)), was sent, as (time, (number, word)), from `least` to `most` before: the same word.
pub record IsCarried (least most : ℕ) (sent came : ℕ × (ℕ × ℕ)) : Type 0 where
  pub same : sent.1.1 ≡ came.1.1
  pub no_sooner : sent.0 + least ≤ came.0
  pub no_later : came.0 ≤ sent.0 + most

-- each that comes was sent, and each that was sent comes at most once, in the order of the sends
abbrev pub Carries : (least most : ℕ) → List (ℕ × (ℕ × ℕ)) → List (ℕ × (ℕ × ℕ)) → Type 0
Carries least most [] [] = Unit {0}
Carries least most [] (a ∷ came) = ⊥
Carries least most (e ∷ sent) [] = Unit {0}
Carries least most (e ∷ sent) (a ∷ came) = (IsCarried least most e a × Carries least most sent came) ⊎ Carries least most sent (a ∷ came)

-- those of one number
abbrev pub of_number : ℕ → List (ℕ × (ℕ × ℕ)) → List (ℕ × (ℕ × ℕ))
of_number n xs = filter (λ x. eqb x.1.0 n) xs
