-- Counts in windows.
use Rattle.std.proofs.Common.{◌≡◌, ℕ, ◌+◌, ◌-◌, ◌*◌, ◌/◌, ◌%◌, ◌^◌, ◌<◌, ◌≤◌, min, zero, suc, List, [], ◌∷◌, ◌++◌, refl, ◌∙◌, arith, ◌⊎◌, inl, inr}
use Rattle.std.proofs.Math.Nat.{le-div_iff_mul-le, div-eq_of_lt, div-mul-le_self, mul-le-mul_left, div-le_self, div-le_of_le-mul, mul-add-mod_self_right, mod-eq_of_lt, div-add-mod', mul-le-mul_right}
use Rattle.std.proofs.lemmas.Bool.{cases_lt}
use Rattle.std.proofs.lemmas.Bool.Decides.{nat_tests}
use Rattle.dc_bound.specs.Window.{count_in, ticks_of, one_in, Spaced, HoldsWire, wire_cap}

pub count_in-nil : (u d : ℕ) → count_in u d [] ≡ 0
unfolding count_in
count_in-nil u d = refl

pub count_in-cons : (u d t : ℕ) (ts : List ℕ) → count_in u d (t ∷ ts) ≡ one_in u d t + count_in u d ts
unfolding count_in
count_in-cons u d t ts = refl

-- within, as three cases
pub one_in_cases : (u d t : ℕ) → ((u ≤ t) × (t < u + d) × (one_in u d t ≡ 1)) ⊎ ((t < u) × (one_in u d t ≡ 0)) ⊎ ((u + d ≤ t) × (one_in u d t ≡ 0))
one_in_cases u d t = grind (arith, nat_tests)

pub ceil_from : (m c d : ℕ) → 1 ≤ m → c * m ≤ d → c ≤ d / m
ceil_from m c d p h = (le-div_iff_mul-le p).1 h

pub ceil_zero : (m : ℕ) → 1 ≤ m → (0 + (m - 1)) / m ≡ 0
ceil_zero m h = let lt : 0 + (m - 1) < m = omega arith in div-eq_of_lt lt

pub ceil_mono : (m d e : ℕ) → 1 ≤ m → d ≤ e → (d + (m - 1)) / m ≤ (e + (m - 1)) / m
ceil_mono m d e p h = ceil_from m ((d + (m - 1)) / m) (e + (m - 1)) p (omega (arith, div-mul-le_self (d + (m - 1)) m))

-- rounded up, a quotient is at most what is divided
pub ceil_le : (m d : ℕ) → 1 ≤ m → (d + (m - 1)) / m ≤ d
ceil_le zero d p = absurd (omega arith)
ceil_le (suc m) zero p = let lt : 0 + (suc m - 1) < suc m = omega arith in rw (div-eq_of_lt lt) (omega arith)
ceil_le (suc m) (suc d) p = div-le_of_le-mul (suc m) (omega arith)

pub ceil_bounded : (m d : ℕ) → 1 ≤ m → d ≤ 1000000 → (d + (m - 1)) / m ≤ 2 ^ 40
ceil_bounded m d p h = omega (arith, ceil_le m d p)

Spaced-step : (m u d x y c : ℕ) → 1 ≤ m → x + m ≤ y → c * m ≤ (u + d - y) + (m - 1) → (one_in u d x + c) * m ≤ (u + d - x) + (m - 1)
Spaced-step m u d x y zero p h r =
    elim (one_in_cases u d x) [ inl w ↦ rw w.2 (omega arith) | inr v ↦ elim v [ inl w ↦ rw w.1 (omega arith) | inr w ↦ rw w.1 (omega arith) ] ]
Spaced-step m u d x y (suc c) p h r =
    elim (one_in_cases u d x) [ inl w ↦ rw w.2 (omega arith) | inr v ↦ elim v [ inl w ↦ rw w.1 (omega arith) | inr w ↦ rw w.1 (omega arith) ] ]

-- the window's part from x on, times m
Spaced-from : (m : ℕ) → 1 ≤ m → (x : ℕ × ℕ) (xs : List (ℕ × ℕ)) (u d : ℕ) → Spaced m (x ∷ xs) → count_in u d (ticks_of (x ∷ xs)) * m ≤ (u + d - x.0) + (m - 1)
unfolding Spaced count_in
Spaced-from m p x [] u d h = grind (arith, one_in_cases u d x.0)
Spaced-from m p x (y ∷ ys) u d h =
    let rest = Spaced-from m p y ys u d h.1 in
    let c : ℕ = count_in u d (ticks_of (y ∷ ys)) in
    Spaced-step m u d x.0 y.0 (count_in u d (ticks_of (y ∷ ys))) p h.0 rest

Spaced-tail : (m : ℕ) (x : ℕ × ℕ) (xs : List (ℕ × ℕ)) → Spaced m (x ∷ xs) → Spaced m xs
unfolding Spaced
Spaced-tail m x [] h = tt
Spaced-tail m x (y ∷ xs) h = h.1

pub Spaced-count : (m : ℕ) → 1 ≤ m → (xs : List (ℕ × ℕ)) (u d : ℕ) → Spaced m xs → count_in u d (ticks_of xs) ≤ (d + (m - 1)) / m
unfolding Spaced count_in
Spaced-count m p [] u d h = omega arith
Spaced-count m p (x ∷ xs) u d h =
    elim (one_in_cases u d x.0) [
      | inl w ↦ ceil_from m (count_in u d (ticks_of (x ∷ xs))) (d + (m - 1)) p (omega (arith, Spaced-from m p x xs u d h))
      | inr v ↦ elim v [
        | inl w ↦ rw w.1 (omega (arith, Spaced-count m p xs u d (Spaced-tail m x xs h)))
        | inr w ↦ ceil_from m (count_in u d (ticks_of (x ∷ xs))) (d + (m - 1)) p (omega (arith, Spaced-from m p x xs u d h))
      ]
    ]

pub both_zero : (a b : ℕ) → a ≡ 0 → min a b ≡ 0
both_zero a b h = omega arith

pub both_mono : (a b c d : ℕ) → a ≤ c → b ≤ d → min a b ≤ min c d
both_mono a b c d h k = omega arith

pub both_bounded : (a b : ℕ) → a ≤ 2 ^ 40 → min a b ≤ 2 ^ 40
both_bounded a b h = omega arith

pub both_holds : (a b n : ℕ) → n ≤ a → n ≤ b → n ≤ min a b
both_holds a b n h k = omega arith

pub count_in-append : (u d : ℕ) (xs ys : List (ℕ × ℕ)) → count_in u d (ticks_of (xs ++ ys)) ≡ count_in u d (ticks_of xs) + count_in u d (ticks_of ys)
unfolding count_in
count_in-append u d [] ys = omega arith
count_in-append u d (x ∷ xs) ys = omega (arith, count_in-append u d xs ys)

pub count_in-zero : (u : ℕ) (ts : List ℕ) → count_in u 0 ts ≡ 0
unfolding count_in
count_in-zero u [] = refl
count_in-zero u (t ∷ ts) = elim (one_in_cases u 0 t) [ inl w ↦ absurd (omega arith) | inr v ↦ elim v [ inl w ↦ omega (arith, count_in-zero u ts) | inr w ↦ omega (arith, count_in-zero u ts) ] ]

pub wire_mono : (t s d e : ℕ) → 1 ≤ s → d ≤ e → wire_cap t s d ≤ wire_cap t s e
wire_mono t s zero e p h = omega arith
wire_mono t s (suc d) zero p h = absurd (omega arith)
wire_mono t s (suc d) (suc e) p h =
    let le : t * suc d ≤ t * suc e = mul-le-mul_left t h in
    omega (arith, ceil_from s (suc d * t / s) (suc e * t) p (omega (arith, div-mul-le_self (suc d * t) s)))

pub wire_bounded : (t s d : ℕ) → t ≤ 10000 → 1 ≤ s → d ≤ 1000000 → wire_cap t s d ≤ 2 ^ 40
wire_bounded t s zero h p k = omega arith
wire_bounded t s (suc d) h p k =
    let le : t * suc d ≤ t * 1000000 = mul-le-mul_left t k in
    omega (arith, div-le_self (suc d * t) s)

pub wire_holds : (t s : ℕ) (xs : List (ℕ × ℕ)) (u d : ℕ) → HoldsWire t s (ticks_of xs) → count_in u d (ticks_of xs) ≤ wire_cap t s d
wire_holds t s xs u zero h = omega (arith, count_in-zero u (ticks_of xs))
wire_holds t s xs u (suc d) h = h (suc d) (omega arith) u

pub wire_prefix : (t s : ℕ) (xs ys : List (ℕ × ℕ)) → HoldsWire t s (ticks_of (xs ++ ys)) → HoldsWire t s (ticks_of xs)
wire_prefix t s xs ys h = λ d k u. omega (arith, h d k u, count_in-append u d xs ys)

-- ---- places in a row of equal parts

pub at_mod : (m q r : ℕ) → r < m → (q * m + r) % m ≡ r
at_mod m q r h = mul-add-mod_self_right q m r ∙ mod-eq_of_lt h

pub at_div : (m q r : ℕ) → r < m → (q * m + r) / m ≡ q
at_div m q r h =
    let some : 1 ≤ m = omega arith in
    let low : q ≤ (q * m + r) / m = ceil_from m q (q * m + r) some (omega arith) in
    let back : (q * m + r) / m * m + (q * m + r) % m ≡ q * m + r = div-add-mod' (q * m + r) m in
    elim (cases_lt q ((q * m + r) / m)) [
      | inl l ↦ let up : suc q * m ≤ (q * m + r) / m * m = mul-le-mul_right m l in absurd (omega arith)
      | inr l ↦ omega arith
    ]
