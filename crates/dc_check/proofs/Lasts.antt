-- The greatest number below another that passes a test.
use Rattle.std.proofs.Common.{◌≡◌, ℕ, zero, suc, ◌≤◌, ◌<◌, Bool, true, false, cond, Some, refl, sym, ap, inl, inr, ◌∙◌, arith}
use Rattle.std.proofs.lemmas.Bool.{cases_lt}
use Rattle.dc_bound.specs.Places.{last_below}

-- what it is: below, and passing
pub last_below-passes : (p : ℕ → Bool) (n m : ℕ) → last_below p n ≡ Some m → (m < n) × (p m ≡ true)
last_below-passes p zero m h = absurd cc
last_below-passes p (suc n) m h =
    elim (p n) as (λ b. p n ≡ b → cond b (Some n) (last_below p n) ≡ Some m → (m < suc n) × (p m ≡ true)) [
      | true ↦ λ is h. (let e : n ≡ m = cc in (omega arith, ap p (sym e) ∙ is))
      | false ↦ λ is h. (let r = last_below-passes p n m h in (omega (arith, r.0), r.1))
    ] refl h

-- one that passes is at most it
pub last_below-from : (p : ℕ → Bool) (n k : ℕ) → k < n → p k ≡ true → (m : ℕ) × (last_below p n ≡ Some m) × (k ≤ m)
last_below-from p zero k h u = absurd (omega arith)
last_below-from p (suc n) k h u =
    elim (p n) as (λ b. p n ≡ b → (m : ℕ) × (cond b (Some n) (last_below p n) ≡ Some m) × (k ≤ m)) [
      | true ↦ λ is. (n, refl, omega arith)
      | false ↦ λ is. elim (cases_lt k n) [
        | inl l ↦ last_below-from p n k l u
        | inr g ↦ let e : k ≡ n = omega arith in absurd (let bad : true ≡ false = sym u ∙ ap p e ∙ is in cc)
      ]
    ] refl
