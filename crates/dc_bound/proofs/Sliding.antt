-- A window of steps that slides along a list of visits.
use Rattle.std.proofs.Common.{◌≡◌, ℕ, ◌+◌, ◌*◌, ◌%◌, ◌<◌, List, length, arith, ap, ◌∙◌}
use Rattle.std.proofs.Math.Nat.{mod-eq_of_lt}
use Rattle.dc_bound.specs.Rounds.{among, is_at}
use Rattle.dc_bound.specs.lemmas.Counts.{at_mod}
use Rattle.dc_bound.specs.lemmas.Cycle.{slide_step}

module _ (table : List ℕ) (bus : ℕ) where
  -- the visits of a window
  abbrev pub visits_in : (n k : ℕ) → ℕ
  visits_in n k = among (λ i. is_at table bus i) (length table) n k

  slides : (n k here ahead : ℕ) → here ≡ visits_in n k → n < length table → (n + k) % length table ≡ ahead → visits_in (n + 1) k + is_at table bus n ≡ here + is_at table bus ahead
  slides n k here ahead h inside next =
      let place : n % length table ≡ n = mod-eq_of_lt inside in
      omega (arith, slide_step (λ i. is_at table bus i) (length table) n k here h, ap (λ i. is_at table bus i) place, ap (λ i. is_at table bus i) next)

  -- a step of a window that ends in the list
  pub slides_inside : (n k here : ℕ) → here ≡ visits_in n k → n + k < length table → visits_in (n + 1) k + is_at table bus n ≡ here + is_at table bus (n + k)
  slides_inside n k here h inside = slides n k here (n + k) h (omega arith) (mod-eq_of_lt inside)

  -- a step of a window that goes on at the front
  pub slides_round : (last n k here : ℕ) → last + k ≡ length table → here ≡ visits_in (last + n) k → n < k → visits_in (last + n + 1) k + is_at table bus (last + n) ≡ here + is_at table bus n
  slides_round last n k here all h inside =
      let e : last + n + k ≡ 1 * length table + n = omega arith in
      slides (last + n) k here n h (omega arith) (ap (λ x. x % length table) e ∙ at_mod (length table) 1 n (omega arith))
