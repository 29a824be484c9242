-- Budgets of an actor by the ticks of its steps, where tick `whole` is the unfinished one.
use Rattle.std.proofs.Common.{◌≡◌, ℕ, ◌+◌, ◌-◌, ◌<◌, ◌≤◌, ◌↔◌, suc, List, [], ◌∷◌, ◌++◌, Option, Some, None, refl, ap, ◌∙◌, arith, inl, inr}
use Rattle.dc_bound.specs.Window.{HoldAtMost, count_in, IsLast}
use Rattle.dc_bound.specs.lemmas.Counts.{one_in_cases, count_in-zero}
use Rattle.dc_bound.specs.lemmas.Budget.{count_in_sum}
use Rattle.dc_bound.specs.lemmas.Steps.{count_in-push}

-- no step is later than the unfinished tick
abbrev pub NoneLater : ℕ → List ℕ → Type 0
NoneLater whole ts = (u d : ℕ) → whole < u → count_in u d ts ≡ 0

-- how many of the steps stand in the last d ticks, the unfinished one included
abbrev pub recent : ℕ → ℕ → List ℕ → ℕ
recent d whole ts = count_in (suc whole - d) d ts

same_window : (ts : List ℕ) (u v d e : ℕ) → u ≡ v → d ≡ e → count_in u d ts ≡ count_in v e ts
same_window ts u v d e h k = ap (λ x. count_in x d ts) h ∙ ap (λ x. count_in v x ts) k

-- a window from 0 on
from_start : (u d : ℕ) (ts : List ℕ) → count_in 0 (u + d) ts ≡ count_in 0 u ts + count_in u d ts
from_start u d ts = omega (arith, count_in_sum 0 u d ts, same_window ts (0 + u) u d d (omega arith) refl)

counts-rise : (j k : ℕ) (ts : List ℕ) → j ≤ k → count_in 0 j ts ≤ count_in 0 k ts
counts-rise j k ts h = omega (arith, from_start j (k - j) ts, same_window ts 0 0 (j + (k - j)) k refl (omega arith))

-- from the first tick to any later than the unfinished one: all of them
all-counted : (k whole : ℕ) (ts : List ℕ) → NoneLater whole ts → suc whole ≤ k → count_in 0 k ts ≡ count_in 0 (suc whole) ts
all-counted k whole ts none h = omega (arith, from_start (suc whole) (k - suc whole) ts, same_window ts 0 0 (suc whole + (k - suc whole)) k refl (omega arith), none (suc whole) (k - suc whole) (omega arith))

-- the last d ticks hold no fewer than any d ticks that reach the unfinished one
pub recent-most : (u d whole : ℕ) (ts : List ℕ) → NoneLater whole ts → u ≤ whole → whole < u + d → count_in u d ts ≤ recent d whole ts
recent-most u d whole ts none low high =
    omega (arith, from_start u d ts, all-counted (u + d) whole ts none high, from_start (suc whole - d) d ts, all-counted (suc whole - d + d) whole ts none (omega arith), counts-rise (suc whole - d) u ts (omega arith))

-- one more step in the unfinished tick keeps a cap on each d ticks exactly where the last d ticks have room
pub most_push : (n d whole : ℕ) (ts : List ℕ) → 0 < d → NoneLater whole ts → HoldAtMost n d (ts ++ (whole ∷ [])) ↔ (HoldAtMost n d ts × (recent d whole ts < n))
most_push n d whole ts pos none = (
  (λ h. (
    (λ u. omega (arith, h u, count_in-push u d ts whole)),
    elim (one_in_cases (suc whole - d) d whole) [
      | inl w ↦ omega (arith, h (suc whole - d), count_in-push (suc whole - d) d ts whole)
      | inr v ↦ elim v [ inl w ↦ absurd (omega arith) | inr w ↦ absurd (omega arith) ]
    ],
  )),
  (λ h u. elim (one_in_cases u d whole) [
    | inl w ↦ omega (arith, h.1, count_in-push u d ts whole, recent-most u d whole ts none w.0 w.1)
    | inr v ↦ elim v [ inl w ↦ omega (arith, h.0 u, count_in-push u d ts whole) | inr w ↦ omega (arith, h.0 u, count_in-push u d ts whole) ]
  ]),
)

-- ---- the last step

pub last-none : (d whole : ℕ) (ts : List ℕ) → NoneLater whole ts → IsLast None whole ts → recent d whole ts ≡ 0
last-none d whole ts none h = omega (arith, h, from_start (suc whole - d) d ts, all-counted (suc whole - d + d) whole ts none (omega arith))

-- the last d ticks hold none exactly where the last step is at least d ticks back
pub last-far : (d k whole : ℕ) (ts : List ℕ) → 0 < d → IsLast (Some k) whole ts → k + d ≤ whole → recent d whole ts ≡ 0
last-far d k whole ts pos h far =
    omega (arith, h.2, from_start (suc k) (whole - k) ts, same_window ts 0 0 (suc k + (whole - k)) (suc whole) refl (omega (arith, h.0)), from_start (suc whole - d) d ts, same_window ts 0 0 (suc whole - d + d) (suc whole) refl (omega arith), counts-rise (suc k) (suc whole - d) ts (omega arith))

pub last-near : (d k whole : ℕ) (ts : List ℕ) → IsLast (Some k) whole ts → whole < k + d → 1 ≤ recent d whole ts
last-near d k whole ts h near =
    omega (arith, h.1, from_start k 1 ts, same_window ts 0 0 (k + 1) (suc k) refl (omega arith), from_start (suc whole - d) d ts, counts-rise (suc k) (suc whole - d + d) ts (omega (arith, h.0)), counts-rise (suc whole - d) k ts (omega arith))

pub last-now : (whole : ℕ) (ts : List ℕ) → IsLast (Some whole) whole (ts ++ (whole ∷ []))
last-now whole ts = (
  omega arith,
  elim (one_in_cases whole 1 whole) [ inl w ↦ omega (arith, count_in-push whole 1 ts whole) | inr v ↦ elim v [ inl w ↦ absurd (omega arith) | inr w ↦ absurd (omega arith) ] ],
  omega (arith, same_window (ts ++ (whole ∷ [])) (suc whole) (suc whole) (whole - whole) 0 refl (omega arith), count_in-zero (suc whole) (ts ++ (whole ∷ []))),
)

-- a tick ends without a step
pub last-turn : (o : Option ℕ) (whole : ℕ) (ts : List ℕ) → NoneLater whole ts → IsLast o whole ts → IsLast o (suc whole) ts
last-turn None whole ts none h = omega (arith, h, all-counted (suc (suc whole)) whole ts none (omega arith))
last-turn (Some k) whole ts none h = (
  omega (arith, h.0),
  h.1,
  omega (arith, h.2, none (suc whole) 1 (omega arith), count_in_sum (suc k) (whole - k) 1 ts, same_window ts (suc k + (whole - k)) (suc whole) 1 1 (omega (arith, h.0)) refl, same_window ts (suc k) (suc k) (whole - k + 1) (suc whole - k) refl (omega (arith, h.0))),
)
