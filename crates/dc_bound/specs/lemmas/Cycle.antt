-- Sums of a weight that comes again after each period.
use Rattle.std.proofs.Common.{◌≡◌, ℕ, zero, suc, ◌+◌, ◌-◌, ◌*◌, ◌/◌, ◌%◌, ◌≤◌, ◌<◌, min, cond, true, false, eqb, List, length, get_or, refl, sym, ap, ◌∙◌, arith, inl, inr, add_assoc, add-zero}
use Rattle.std.proofs.Math.Nat.{div-add-mod', mod-lt, add-mod_right}
use Rattle.std.proofs.lemmas.Bool.{cases_lt}
use Rattle.dc_bound.specs.Places.{least}
use Rattle.dc_bound.specs.lemmas.Budget.{pace_mono, pace_zero}
use Rattle.dc_bound.specs.lemmas.Least.{least-le, le-least}
use Rattle.dc_bound.specs.Rounds.{fewest_among, most_among, is_at, fewest_visits}
use Rattle.dc_bound.specs.Rounds.{among, greatest_to}

-- ---- the greatest

pub le-greatest_to : (n : ℕ) (f : ℕ → ℕ) (j : ℕ) → j ≤ n → f j ≤ greatest_to n f
unfolding greatest_to
le-greatest_to zero f zero h = omega arith
le-greatest_to zero f (suc j) h = absurd (omega arith)
le-greatest_to (suc n) f j h =
    elim (cases_lt j (suc n)) [
      | inl k ↦ omega (arith, le-greatest_to n f j (omega arith))
      | inr k ↦ let e : j ≡ suc n = omega arith in rw e (omega arith)
    ]

pub greatest_to-le : (n : ℕ) (f : ℕ → ℕ) (b : ℕ) → ((j : ℕ) → j ≤ n → f j ≤ b) → greatest_to n f ≤ b
unfolding greatest_to
greatest_to-le zero f b h = h 0 (omega arith)
greatest_to-le (suc n) f b h = omega (arith, greatest_to-le n f b (λ j k. h j (omega arith)), h (suc n) (omega arith))

-- ---- windows that slide along

module _ (f : ℕ → ℕ) (period : ℕ) where
  pub among_sum : (n j k : ℕ) → among f period n (j + k) ≡ among f period n j + among f period (n + j) k
  unfolding among
  among_sum n j zero = omega (arith, ap (λ x. among f period n x) (add-zero j))
  among_sum n j (suc k) =
      let e : j + suc k ≡ suc (j + k) = omega arith in
      omega (arith, ap (λ x. among f period n x) e, among_sum n j k, ap (λ x. f (x % period)) (add_assoc n j k))

  pub among_mono : (n j k : ℕ) → j ≤ k → among f period n j ≤ among f period n k
  among_mono n j k h =
      let e : k ≡ j + (k - j) = omega arith in
      omega (arith, ap (λ x. among f period n x) e, among_sum n j (k - j))

  same_place : (n : ℕ) → f ((n + period) % period) ≡ f (n % period)
  same_place n = ap f (add-mod_right n period)

  among_shift : (n k : ℕ) → among f period (n + period) k ≡ among f period n k
  unfolding among
  among_shift n zero = refl
  among_shift n (suc k) =
      let e : n + period + k ≡ n + k + period = omega arith in
      omega (arith, among_shift n k, ap (λ x. f (x % period)) e, same_place (n + k))

  among_one : (n : ℕ) → among f period n 1 ≡ f (n % period)
  unfolding among
  among_one n = omega (arith, ap (λ x. f (x % period)) (add-zero n))

  pub among_front : (n k : ℕ) → among f period n (suc k) ≡ f (n % period) + among f period (suc n) k
  among_front n k =
      let e : 1 + k ≡ suc k = omega arith in
      let e' : n + 1 ≡ suc n = omega arith in
      omega (arith, ap (λ x. among f period n x) e, among_sum n 1 k, among_one n, ap (λ x. among f period x k) e')

  pub among_slide : (n k : ℕ) → among f period (suc n) k + f (n % period) ≡ among f period n k + f ((n + k) % period)
  unfolding among
  among_slide n k = omega (arith, among_front n k)

  -- a round holds the same wherever it begins
  among_round : (n : ℕ) → among f period n period ≡ among f period 0 period
  among_round zero = refl
  among_round (suc n) = omega (arith, among_slide n period, same_place n, among_round n)

  pub among_rounds : (n q r : ℕ) → among f period n (q * period + r) ≡ q * among f period 0 period + among f period n r
  among_rounds n zero r = let e : 0 * period + r ≡ r = omega arith in omega (arith, ap (λ x. among f period n x) e)
  among_rounds n (suc q) r =
      let e : suc q * period + r ≡ period + (q * period + r) = omega arith in
      omega (
        arith,
        ap (λ x. among f period n x) e,
        among_sum n period (q * period + r),
        among_round n,
        among_shift n (q * period + r),
        among_rounds n q r,
      )

  among_shifts : (q n k : ℕ) → among f period (q * period + n) k ≡ among f period n k
  among_shifts zero n k = let e : 0 * period + n ≡ n = omega arith in ap (λ x. among f period x k) e
  among_shifts (suc q) n k =
      let e : suc q * period + n ≡ q * period + n + period = omega arith in
      ap (λ x. among f period x k) e ∙ among_shift (q * period + n) k ∙ among_shifts q n k

  among_mod : (n k : ℕ) → among f period (n % period) k ≡ among f period n k
  among_mod n k = sym (among_shifts (n / period) (n % period) k) ∙ ap (λ x. among f period x k) (div-add-mod' n period)

  -- any k consecutive numbers weigh at least as much
  pub fewest_holds : 1 ≤ period → (n k : ℕ) → fewest_among f period k ≤ among f period n k
  fewest_holds some n k =
      let small : n % period < period = mod-lt n some in
      omega (arith, least-le (λ m. among f period m k) (period - 1) (n % period) (omega arith), among_mod n k)

  pub fewest_mono : (j k : ℕ) → j ≤ k → fewest_among f period j ≤ fewest_among f period k
  fewest_mono j k h =
      le-least (λ m. among f period m k) (period - 1) (fewest_among f period j)
      (λ n l. omega (arith, least-le (λ m. among f period m j) (period - 1) n l, among_mono n j k h))

  pub most_holds : 1 ≤ period → (n k : ℕ) → among f period n k ≤ most_among f period k
  most_holds some n k =
      let small : n % period < period = mod-lt n some in
      omega (arith, le-greatest_to (period - 1) (λ m. among f period m k) (n % period) (omega arith), among_mod n k)

  pub most_mono : (j k : ℕ) → j ≤ k → most_among f period j ≤ most_among f period k
  most_mono j k h =
      greatest_to-le (period - 1) (λ m. among f period m j) (most_among f period k)
      (λ n l. omega (arith, le-greatest_to (period - 1) (λ m. among f period m k) n l, among_mono n j k h))

  pub fewest_zero : fewest_among f period 0 ≡ 0
  unfolding among
  fewest_zero = omega (arith, least-le (λ m. among f period m 0) (period - 1) 0 (omega arith))

-- ---- visits of a bus

pub fewest_visits_zero : (table : List ℕ) (bus steps per : ℕ) → fewest_visits table bus (steps * (0 / per)) ≡ 0
fewest_visits_zero table bus steps per = ap (λ k. fewest_visits table bus k) (pace_zero steps per) ∙ fewest_zero (λ i. is_at table bus i) (length table)

pub fewest_visits_mono : (table : List ℕ) (bus steps per d e : ℕ) → 1 ≤ per → d ≤ e → fewest_visits table bus (steps * (d / per)) ≤ fewest_visits table bus (steps * (e / per))
fewest_visits_mono table bus steps per d e p h = fewest_mono (λ i. is_at table bus i) (length table) (steps * (d / per)) (steps * (e / per)) (pace_mono steps per d e p h)

pub fewest_grows : (table : List ℕ) (bus j k : ℕ) → j ≤ k → fewest_visits table bus j ≤ fewest_visits table bus k
fewest_grows table bus j k h = fewest_mono (λ i. is_at table bus i) (length table) j k h

-- a step of a window that slides along
pub slide_step : (f : ℕ → ℕ) (period n k here : ℕ) → here ≡ among f period n k → among f period (n + 1) k + f (n % period) ≡ here + f ((n + k) % period)
slide_step f period n k here h =
    let e : n + 1 ≡ suc n = omega arith in
    omega (arith, among_slide f period n k, ap (λ x. among f period x k) e)

pub least_step : (n : ℕ) (g : ℕ → ℕ) (fewest here : ℕ) → fewest ≡ least g n → here ≡ g (n + 1) → min fewest here ≡ least g (n + 1)
least_step n g fewest here h k =
    let e : n + 1 ≡ suc n = omega arith in
    omega (arith, ap g e, ap (λ x. least g x) e)

least_shift : (n : ℕ) (f g : ℕ → ℕ) (b : ℕ) → ((k : ℕ) → f k ≡ b + g k) → least f n ≡ b + least g n
least_shift zero f g b h = h 0
least_shift (suc n) f g b h = omega (arith, least_shift n f g b h, h (suc n))

-- whole rounds add to each window alike
pub fewest_rounds : (table : List ℕ) (bus steps : ℕ) →
    1 ≤ length table →
    fewest_visits table bus steps ≡ steps / length table * among (λ i. is_at table bus i) (length table) 0 (length table) + fewest_visits table bus (steps % length table)
fewest_rounds table bus steps some =
    least_shift (length table - 1) (λ n. among (λ i. is_at table bus i) (length table) n steps) (λ n. among (λ i. is_at table bus i) (length table) n (steps % length table))
    (steps / length table * among (λ i. is_at table bus i) (length table) 0 (length table))
    (λ n. ap (λ k. among (λ i. is_at table bus i) (length table) n k) (sym (div-add-mod' steps (length table))) ∙ among_rounds (λ i. is_at table bus i) (length table) n (steps / length table) (steps % length table))

pub among_small : (f : ℕ → ℕ) → ((i : ℕ) → f i ≤ 1) → (period n k : ℕ) → among f period n k ≤ k
unfolding among
among_small f h period n zero = omega arith
among_small f h period n (suc k) = omega (arith, among_small f h period n k, h ((n + k) % period))

pub is_at_small : (table : List ℕ) (bus i : ℕ) → is_at table bus i ≤ 1
is_at_small table bus i = elim (eqb (get_or table i 0) bus) as (λ b. cond b 1 0 ≤ 1) [ true ↦ omega arith | false ↦ omega arith ]
