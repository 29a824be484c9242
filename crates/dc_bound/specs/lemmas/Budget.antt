-- Steps that keep a budget: at least so many in each span of ticks, or at most so many.
use Rattle.std.proofs.Common.{◌≡◌, ℕ, zero, suc, ◌+◌, ◌-◌, ◌*◌, ◌/◌, ◌≤◌, List, [], ◌∷◌, ◌++◌, refl, ap, ◌∙◌, arith, inl, inr}
use Rattle.std.proofs.Math.Nat.{div-mul-le_self, div-add-mod', mod-lt, mul-le-mul_left, zero-div, mul-zero}
use Rattle.std.proofs.lemmas.Bool.{cases_lt}
use Rattle.std.proofs.lemmas.Bool.Decides.{nat_tests}
use Rattle.dc_bound.specs.Window.{count_in, ticks_of, one_in, HoldAtLeast, HoldAtMost}
use Rattle.dc_bound.specs.lemmas.Counts.{ceil_from, count_in-append, count_in-zero}

one_in_sum : (u d e t : ℕ) → one_in u (d + e) t ≡ one_in u d t + one_in (u + d) e t
one_in_sum u d e t = grind (arith, nat_tests)

pub count_in_sum : (u d e : ℕ) (ts : List ℕ) → count_in u (d + e) ts ≡ count_in u d ts + count_in (u + d) e ts
unfolding count_in
count_in_sum u d e [] = refl
count_in_sum u d e (t ∷ ts) = omega (arith, one_in_sum u d e t, count_in_sum u d e ts)

pub pace_times : (steps per whole : ℕ) (ts : List ℕ) → HoldAtLeast steps per whole ts → (n u d : ℕ) → n * per ≤ d → u + d ≤ whole → steps * n ≤ count_in u d ts
pace_times steps per whole ts h zero u d f g = omega arith
pace_times steps per whole ts h (suc n) u d f g =
    let e : d ≡ per + (d - per) = omega arith in
    omega (arith, ap (λ x. count_in u x ts) e, count_in_sum u per (d - per) ts, h u (omega arith), pace_times steps per whole ts h n (u + per) (d - per) (omega arith) (omega arith))

pub pace_holds : (steps per whole : ℕ) (ts : List ℕ) → HoldAtLeast steps per whole ts → (u d : ℕ) → u + d ≤ whole → steps * (d / per) ≤ count_in u d ts
pace_holds steps per whole ts h u d g = pace_times steps per whole ts h (d / per) u d (omega (arith, div-mul-le_self d per)) g

pub pace_mono : (steps per d e : ℕ) → 1 ≤ per → d ≤ e → steps * (d / per) ≤ steps * (e / per)
pace_mono steps per d e p h = let le : d / per ≤ e / per = ceil_from per (d / per) e p (omega (arith, div-mul-le_self d per)) in mul-le-mul_left steps le

pub pace_zero : (steps per : ℕ) → steps * (0 / per) ≡ 0
pace_zero steps per = ap (λ x. steps * x) (zero-div per) ∙ mul-zero steps

pub most_times : (n m : ℕ) (ts : List ℕ) → HoldAtMost n m ts → (k u d : ℕ) → d ≤ k * m → count_in u d ts ≤ n * k
most_times n m ts h zero u d f = let z : d ≡ 0 = omega arith in omega (arith, ap (λ x. count_in u x ts) z, count_in-zero u ts)
most_times n m ts h (suc k) u d f =
    elim (cases_lt d m) [
      | inl l ↦ let e : m ≡ d + (m - d) = omega arith in omega (arith, ap (λ x. count_in u x ts) e, count_in_sum u d (m - d) ts, h u, mul-le-mul_left n (let one : 1 ≤ suc k = omega arith in one))
      | inr l ↦ let e : d ≡ m + (d - m) = omega arith in omega (arith, ap (λ x. count_in u x ts) e, count_in_sum u m (d - m) ts, h u, most_times n m ts h k (u + m) (d - m) (omega arith))
    ]

ceil_covers : (m d : ℕ) → 1 ≤ m → d ≤ (d + (m - 1)) / m * m
ceil_covers m d p = omega (arith, div-add-mod' (d + (m - 1)) m, mod-lt (d + (m - 1)) p)

-- at most one in each m ticks: at most d / m, rounded up, in each d
pub one_each_holds : (m : ℕ) → 1 ≤ m → (xs : List (ℕ × ℕ)) (u d : ℕ) → HoldAtMost 1 m (ticks_of xs) → count_in u d (ticks_of xs) ≤ (d + (m - 1)) / m
one_each_holds m p xs u d h = omega (arith, most_times 1 m (ticks_of xs) h ((d + (m - 1)) / m) u d (ceil_covers m d p))

pub one_each_prefix : (m : ℕ) (xs ys : List (ℕ × ℕ)) → HoldAtMost 1 m (ticks_of (xs ++ ys)) → HoldAtMost 1 m (ticks_of xs)
one_each_prefix m xs ys h = λ u. omega (arith, h u, count_in-append u m xs ys)
