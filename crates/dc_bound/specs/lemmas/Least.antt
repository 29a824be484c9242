-- Lemmas on the least, and on what has been served.
use Rattle.std.proofs.Common.{◌≡◌, ℕ, zero, suc, ◌+◌, ◌-◌, ◌≤◌, List, ◌++◌, length, take, drop, refl, sym, ap, arith, inl, inr, length-append, take-append-drop}
use Rattle.std.proofs.lemmas.Bool.{cases_lt}
use Rattle.std.proofs.lemmas.List.{take_at, take_all}
use Rattle.dc_bound.specs.Places.{least, served_in}

pub least-le : (f : ℕ → ℕ) (n j : ℕ) → j ≤ n → least f n ≤ f j
least-le f zero zero h = omega arith
least-le f zero (suc j) h = absurd (omega arith)
least-le f (suc n) j h =
    elim (cases_lt j (suc n)) [
      | inl k ↦ omega (arith, least-le f n j (omega arith))
      | inr k ↦ let e : j ≡ suc n = omega arith in rw e (omega arith)
    ]

-- what is at most each of them is at most the least
pub le-least : (f : ℕ → ℕ) (n b : ℕ) → ((j : ℕ) → j ≤ n → b ≤ f j) → b ≤ least f n
le-least f zero b h = h 0 (omega arith)
le-least f (suc n) b h = omega (arith, le-least f n b (λ j k. h j (omega arith)), h (suc n) (omega arith))

module _ {X : Type 0} (come turns : List X → ℕ) where
  -- served is at most what came by any place, and the turns after it
  pub served_in-le : (a b : List X) → served_in come turns (a ++ b) ≤ come a + (turns (a ++ b) - turns a)
  unfolding served_in
  served_in-le a b =
      let run : List X = a ++ b in
      let short : length a ≤ length (a ++ b) = omega (arith, length-append a b) in
      omega (
        arith,
        least-le (λ j. come (take j (a ++ b)) + (turns (take (length (a ++ b)) (a ++ b)) - turns (take j (a ++ b)))) (length (a ++ b)) (length a) short,
        ap come (take_at a b (length a) refl),
        ap turns (take_at a b (length a) refl),
        ap turns (take_all (length (a ++ b)) (a ++ b) (omega arith)),
      )

  -- and no less than what is at most that at each place
  pub le-served_in : (run : List X) (n : ℕ) → ((a b : List X) → run ≡ a ++ b → n ≤ come a + (turns run - turns a)) → n ≤ served_in come turns run
  unfolding served_in
  le-served_in run n h =
      le-least (λ j. come (take j run) + (turns (take (length run) run) - turns (take j run))) (length run) n
      (λ j k. omega (arith, h (take j run) (drop j run) (sym (take-append-drop j run)), ap turns (take_all (length run) run (omega arith))))
