-- Entries whose neighbours lie apart: the same as at most one in each window of so many ticks.
use Rattle.std.proofs.Common.{ℕ, ◌+◌, ◌-◌, ◌*◌, ◌/◌, ◌≤◌, ◌↔◌, List, [], ◌∷◌, arith, inl, inr}
use Rattle.std.proofs.Math.Nat.{div-mul-le_self, mul-le-mul_right}
use Rattle.std.proofs.lemmas.Bool.{cases_lt}
use Rattle.dc_bound.specs.Window.{count_in, ticks_of, Spaced, HoldAtMost}
use Rattle.dc_bound.specs.lemmas.Counts.{one_in_cases, Spaced-count}
use Rattle.dc_bound.specs.Turns.{NeverFall}

-- m ticks, rounded up to whole spans of m, are one span
one_span : (m : ℕ) → 1 ≤ m → (m + (m - 1)) / m ≤ 1
one_span m some =
    elim (cases_lt 1 ((m + (m - 1)) / m)) [
      | inl l ↦ let up : 2 * m ≤ (m + (m - 1)) / m * m = mul-le-mul_right m l in absurd (omega (arith, div-mul-le_self (m + (m - 1)) m))
      | inr l ↦ l
    ]

pub spaced_holds : (m : ℕ) → 1 ≤ m → (xs : List (ℕ × ℕ)) → Spaced m xs → HoldAtMost 1 m (ticks_of xs)
spaced_holds m some xs h = λ u. omega (arith, Spaced-count m some xs u m h, one_span m some)

pub holds_spaced : (m : ℕ) → 1 ≤ m → (xs : List (ℕ × ℕ)) → NeverFall (ticks_of xs) → HoldAtMost 1 m (ticks_of xs) → Spaced m xs
unfolding Spaced NeverFall count_in
holds_spaced m some [] order h = tt
holds_spaced m some (x ∷ []) order h = tt
holds_spaced m some (x ∷ y ∷ xs) order h = (
  elim (cases_lt y.0 (x.0 + m)) [
    | inl near ↦
        absurd (elim (one_in_cases x.0 m x.0) [
          | inl a ↦ elim (one_in_cases x.0 m y.0) [
            | inl b ↦ omega (arith, h x.0, order.0)
            | inr v ↦ elim v [ inl b ↦ omega (arith, order.0) | inr b ↦ omega arith ]
          ]
          | inr v ↦ elim v [ inl a ↦ omega arith | inr a ↦ omega arith ]
        ])
    | inr far ↦ far
  ],
  holds_spaced m some (y ∷ xs) order.1 (λ u. omega (arith, h u)),
)

-- the two say the same of entries in order
pub spaced_iff_holds : (m : ℕ) → 1 ≤ m → (xs : List (ℕ × ℕ)) → NeverFall (ticks_of xs) → HoldAtMost 1 m (ticks_of xs) ↔ Spaced m xs
spaced_iff_holds m some xs order = (holds_spaced m some xs order, spaced_holds m some xs)
