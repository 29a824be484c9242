-- Peaks: which they are, and that the searches find them.
use Rattle.std.proofs.Common.{◌≡◌, ℕ, zero, suc, ◌+◌, ◌-◌, ◌≤◌, ◌<◌, Bool, true, false, refl, ap, arith, inl, inr}
use Rattle.std.specs.Prelude.{nat_lt, nat_le, if◌then◌else◌}
use Rattle.std.proofs.lemmas.Bool.{cases_lt, lt-ltb, le-ltb, le-leb}
use Rattle.dc_busy.specs.BusyWindow.{DelayAt}
use Rattle.dc_busy.specs.declared.limits.TheConstants.{LONGEST_WINDOW}
use Rattle.dc_margin.specs.Peaks.{IsPeak, peak, least_below, needed}

-- ---- which it is

-- of a window one tick longer
peak-step : (f : ℕ → ℕ) (n w : ℕ) → IsPeak f n w (f w) → IsPeak f (suc n) (if nat_lt (f w) (f (suc n)) then suc n else w) (f (if nat_lt (f w) (f (suc n)) then suc n else w))
peak-step f n w p =
    elim (cases_lt (f w) (f (suc n))) [
      | inl l ↦ rw (lt-ltb (f w) (f (suc n)) l) record {
        some = omega arith;
        within = omega arith;
        height = refl;
        greatest = λ v low high. elim (cases_lt v (suc n)) [
          | inl below ↦ omega (arith, p.greatest v low (omega arith), l)
          | inr here ↦ let e : v ≡ suc n = omega arith in omega (arith, ap f e)
        ];
        first = λ v low high. omega (arith, p.greatest v low (omega arith), l);
      }
      | inr g ↦ rw (le-ltb (f w) (f (suc n)) g) record {
        some = p.some;
        within = omega (arith, p.within);
        height = refl;
        greatest = λ v low high. elim (cases_lt v (suc n)) [
          | inl below ↦ p.greatest v low (omega arith)
          | inr here ↦ let e : v ≡ suc n = omega arith in omega (arith, ap f e, g)
        ];
        first = p.first;
      }
    ]

peak-of : (f : ℕ → ℕ) (n : ℕ) → IsPeak f (suc n) (peak f (suc n)) (f (peak f (suc n)))
unfolding peak
peak-of f zero =
    rw (le-ltb (f 1) (f 1) (omega arith)) record {
      some = omega arith;
      within = omega arith;
      height = refl;
      greatest = λ v low high. let e : v ≡ 1 = omega arith in omega (arith, ap f e);
      first = λ v low high. absurd (omega arith);
    }
peak-of f (suc n) = peak-step f (suc n) (peak f (suc n)) (peak-of f n)

one-peak : (f : ℕ → ℕ) (n w h v : ℕ) → IsPeak f n w h → IsPeak f n v (f v) → w ≡ v
one-peak f n w h v p q =
    elim (cases_lt w v) [
      | inl l ↦ absurd (omega (arith, q.first w p.some l, p.greatest v q.some q.within, p.height))
      | inr g ↦ elim (cases_lt v w) [
        | inl l ↦ absurd (omega (arith, p.first v q.some l, q.greatest w p.some p.within, p.height))
        | inr k ↦ omega arith
      ]
    ]

-- a peak is the one that is defined
pub peak-is : (f : ℕ → ℕ) (n w h : ℕ) → IsPeak f n w h → w ≡ peak f n
peak-is f zero w h p = absurd (omega (arith, p.some, p.within))
peak-is f (suc n) w h p = one-peak f (suc n) w h (peak f (suc n)) p (peak-of f n)

-- the peak of a window of at least one tick
pub there-is : (f : ℕ → ℕ) (n : ℕ) → 1 ≤ n → IsPeak f n (peak f n) (f (peak f n))
there-is f zero some = absurd (omega arith)
there-is f (suc n) some = peak-of f n

-- ---- the least delay

-- the least number below n is at most each that passes
pub below-least : (n : ℕ) (test : ℕ → Bool) (d : ℕ) → d < n → test d ≡ true → least_below n test ≤ d
unfolding least_below
below-least zero test d l h = absurd (omega arith)
below-least (suc n) test zero l h = rw h omega arith
below-least (suc n) test (suc d) l h =
    elim (test 0) as (λ b. (if b then 0 else suc (least_below n (λ d. test (suc d)))) ≤ suc d) [
      | true ↦ omega arith
      | false ↦ omega (arith, below-least n (λ d. test (suc d)) d (omega arith) h)
    ]

-- and is above each number up to which none passes
pub above-failing : (n : ℕ) (test : ℕ → Bool) (d : ℕ) → d ≤ n → ((e : ℕ) → e < d → test e ≡ false) → d ≤ least_below n test
unfolding least_below
above-failing n test zero l h = omega arith
above-failing zero test (suc d) l h = absurd (omega arith)
above-failing (suc n) test (suc d) l h = rw (h 0 (omega arith)) omega (arith, above-failing n (λ d. test (suc d)) d (omega arith) (λ e below. h (suc e) (omega arith)))

pub below-count : (n : ℕ) (test : ℕ → Bool) → least_below n test ≤ n
unfolding least_below
below-count zero test = omega arith
below-count (suc n) test =
    elim (test 0) as (λ b. (if b then 0 else suc (least_below n (λ d. test (suc d)))) ≤ suc n) [
      | true ↦ omega arith
      | false ↦ omega (arith, below-count n (λ d. test (suc d)))
    ]

module _ (cap floor : ℕ → ℕ) (grows : (d e : ℕ) → d ≤ e → floor d ≤ floor e) where
  -- a delay that passes is enough
  pub enough : (w d : ℕ) → d ≤ LONGEST_WINDOW → DelayAt cap floor d w → needed cap floor w ≤ d
  enough w d short passes = below-least (LONGEST_WINDOW + 1) (λ d. nat_le (cap w) (floor (w - 1 + d))) d (omega arith) (le-leb _ _ passes)
