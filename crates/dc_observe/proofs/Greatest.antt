-- The greatest of some numbers, and more of them.
use Rattle.std.proofs.Common.{◌≡◌, ℕ, zero, suc, ◌+◌, ◌≤◌, ◌<◌, ◌-◌, max, inl, inr, refl, ap, arith}
use Rattle.std.proofs.lemmas.Bool.{cases_lt}
use Rattle.dc_observe.specs.Observed.{greatest_below}

pub greatest_below-same : (n : ℕ) (f g : ℕ → ℕ) → ((k : ℕ) → k < n → f k ≡ g k) → greatest_below n f ≡ greatest_below n g
greatest_below-same zero f g h = refl
greatest_below-same (suc n) f g h = omega (arith, greatest_below-same n f g (λ k l. h k (omega arith)), h n (omega arith))

pub greatest_below-at : (n k : ℕ) (f : ℕ → ℕ) → k < n → f k ≤ greatest_below n f
greatest_below-at zero k f h = absurd (omega arith)
greatest_below-at (suc n) k f h = elim (cases_lt k n) [
  | inl l ↦ omega (arith, greatest_below-at n k f l)
  | inr l ↦ (let e : k ≡ n = omega arith in omega (arith, ap f e))
]

pub greatest_below-rises : (n d : ℕ) (f : ℕ → ℕ) → greatest_below n f ≤ greatest_below (n + d) f
greatest_below-rises n zero f = (let e : n + 0 ≡ n = omega arith in omega (arith, ap (λ k. greatest_below k f) e))
greatest_below-rises n (suc d) f = (let e : n + suc d ≡ suc (n + d) = omega arith in omega (arith, ap (λ k. greatest_below k f) e, greatest_below-rises n d f))

pub greatest_below-tail : (n d : ℕ) (f : ℕ → ℕ) (m : ℕ) → ((k : ℕ) → n ≤ k → k < n + d → f k ≤ m) → greatest_below (n + d) f ≤ max (greatest_below n f) m
greatest_below-tail n zero f m h = (let e : n + 0 ≡ n = omega arith in omega (arith, ap (λ k. greatest_below k f) e))
greatest_below-tail n (suc d) f m h =
    let e : n + suc d ≡ suc (n + d) = omega arith in
    omega (arith, ap (λ k. greatest_below k f) e, greatest_below-tail n d f m (λ k l b. h k l (omega arith)), h (n + d) (omega arith) (omega arith))

-- those from n on are greatest at n
pub greatest_below-first : (n more : ℕ) (f : ℕ → ℕ) → n < more → ((k : ℕ) → n ≤ k → k < more → f k ≤ f n) → greatest_below more f ≡ max (greatest_below n f) (f n)
greatest_below-first n more f some h =
    let d : n + (more - n) ≡ more = omega arith in
    let whole : greatest_below (n + (more - n)) f ≡ greatest_below more f = ap (λ k. greatest_below k f) d in
    omega (arith, whole, greatest_below-tail n (more - n) f (f n) (λ k l b. h k l (omega arith)), greatest_below-rises n (more - n) f, greatest_below-at more n f some)
