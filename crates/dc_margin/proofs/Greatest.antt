-- The number at which f is greatest, and tests that hold of all where they hold of it.
use Rattle.std.proofs.Common.{◌≡◌, ℕ, zero, suc, ◌≤◌, ◌<◌, Bool, true, List, [], ◌∷◌, length, get_or, inl, inr, ap, ◌∙◌, arith}
use Rattle.std.specs.Prelude.{slice_index}
use Rattle.std.specs.List.{fold, list_all}
use Rattle.std.proofs.lemmas.Bool.{cases_lt, lt-ltb, le-ltb}
use Rattle.std.proofs.lemmas.List.{get_or_default}
use Rattle.std.proofs.lemmas.List.Sums.{AllPass-from_list_all, list_all-from_AllPass}
use Rattle.dc_margin.proofs.Law.{same-test}
use Rattle.dc_margin.specs.Margins.{greater_of, greatest_at}

-- what holds of the first and of each of the others
cons-each : (P : ℕ → Type 0) (x : ℕ) (xs : List ℕ) → P x → ((k : ℕ) → k < length xs → P (get_or xs k 0)) → (k : ℕ) → k < suc (length xs) → P (get_or (x ∷ xs) k 0)
cons-each P x xs h each zero l = h
cons-each P x xs h each (suc k) l = each k (omega arith)

module _ (f : ℕ → ℕ) where
  -- one of the two
  either : (P : ℕ → Type 0) (a b : ℕ) → P a → P b → P (greater_of f a b)
  either P a b p q =
      elim (cases_lt (f a) (f b)) [
        | inl l ↦ rw (lt-ltb (f a) (f b) l) q
        | inr g ↦ rw (le-ltb (f a) (f b) g) p
      ]

  -- what holds of the first and of each holds of the greatest
  pub folded : (P : ℕ → Type 0) (best : ℕ) (xs : List ℕ) → P best → ((k : ℕ) → k < length xs → P (get_or xs k 0)) → P (fold (greater_of f) best xs)
  folded P best [] h each = h
  folded P best (x ∷ xs) h each = folded P (greater_of f best x) xs (either P best x h (each 0 (omega arith))) (λ k l. each (suc k) (omega arith))

  -- f of the greater one is at least f of either
  front-least : (a b : ℕ) → f a ≤ f (greater_of f a b)
  front-least a b =
      elim (cases_lt (f a) (f b)) [
        | inl l ↦ rw (lt-ltb (f a) (f b) l) (omega arith)
        | inr g ↦ rw (le-ltb (f a) (f b) g) (omega arith)
      ]

  back-least : (a b : ℕ) → f b ≤ f (greater_of f a b)
  back-least a b =
      elim (cases_lt (f a) (f b)) [
        | inl l ↦ rw (lt-ltb (f a) (f b) l) (omega arith)
        | inr g ↦ rw (le-ltb (f a) (f b) g) g
      ]

  -- f of each is at most f of the greatest
  above-first : (best : ℕ) (xs : List ℕ) → f best ≤ f (fold (greater_of f) best xs)
  above-first best [] = omega arith
  above-first best (x ∷ xs) = omega (arith, front-least best x, above-first (greater_of f best x) xs)

  pub above-each : (best : ℕ) (xs : List ℕ) (k : ℕ) → k < length xs → f (get_or xs k 0) ≤ f (fold (greater_of f) best xs)
  above-each best [] k l = absurd (omega arith)
  above-each best (x ∷ xs) k l =
      cons-each (λ s. f s ≤ f (fold (greater_of f) (greater_of f best x) xs)) x xs (omega (arith, back-least best x, above-first (greater_of f best x) xs)) (above-each (greater_of f best x) xs) k l

  -- what holds of each number of a list that is not empty holds of that at which f is greatest
  pub of-greatest : (P : ℕ → Type 0) (xs : List ℕ) → 1 ≤ length xs → ((k : ℕ) → k < length xs → P (slice_index xs k)) → P (greatest_at f xs)
  unfolding greatest_at
  of-greatest P xs some each = folded P (slice_index xs 0) xs (each 0 (omega arith)) each

  -- a test that holds wherever it holds at a greater f holds of all where it holds of the greatest
  pub greatest-test : (p : ℕ → Bool) → ((s r : ℕ) → f s ≤ f r → p r ≡ true → p s ≡ true) → (xs : List ℕ) → 1 ≤ length xs → list_all p xs ≡ p (greatest_at f xs)
  unfolding greatest_at
  greatest-test p falls xs some =
      same-test (list_all p xs) (p (greatest_at f xs))
      (λ all. folded (λ s. p s ≡ true) (slice_index xs 0) xs (AllPass-from_list_all p xs all 0 0 (omega arith)) (λ k l. AllPass-from_list_all p xs all k 0 l))
      (λ top. list_all-from_AllPass p xs (λ k d l. ap p (get_or_default xs k d 0 l) ∙ falls (get_or xs k 0) (greatest_at f xs) (above-each (slice_index xs 0) xs k l) top))
