-- The cap of a stream with jitter.
use Rattle.std.proofs.Common.{◌≡◌, ℕ, zero, suc, ◌+◌, ◌-◌, ◌*◌, ◌/◌, ◌%◌, min, ◌^◌, ◌<◌, ◌≤◌, ◌↔◌, List, ◌++◌, refl, ap, arith, inl, inr}
use Rattle.std.proofs.Math.Nat.{div-mul-le_self, div-add-mod', mod-lt, mul-le-mul_right, mul-le-mul_left}
use Rattle.std.specs.Int.{div_ceil}
use Rattle.std.proofs.lemmas.Grind.{div_ceil_times}
use Rattle.std.proofs.lemmas.Bool.{cases_lt}
use Rattle.dc_bound.specs.Window.{count_in, ticks_of, HoldAtMost, FlatTo}
use Rattle.dc_bound.specs.lemmas.Counts.{ceil_from, count_in-append}
use Rattle.dc_bound.specs.lemmas.Budget.{one_each_holds}
use Rattle.dc_bound.specs.Early.{jitter_cap, HoldsCap}

-- a quotient rounded up is at most c exactly where c parts cover
pub ceil_within : (m c k : ℕ) → 1 ≤ m → k ≤ c * m → (k + (m - 1)) / m ≤ c
ceil_within m c k some h =
    elim (cases_lt c ((k + (m - 1)) / m)) [
      | inl l ↦ let up : suc c * m ≤ (k + (m - 1)) / m * m = mul-le-mul_right m l in absurd (omega (arith, div-mul-le_self (k + (m - 1)) m))
      | inr l ↦ l
    ]

pub ceil_covers : (m c k : ℕ) → 1 ≤ m → (k + (m - 1)) / m ≤ c → k ≤ c * m
ceil_covers m c k some h =
    let up : (k + (m - 1)) / m * m ≤ c * m = mul-le-mul_right m h in
    omega (arith, div-add-mod' (k + (m - 1)) m, mod-lt (k + (m - 1)) some)

-- without jitter it is d / m, rounded up
pub jitter_cap-none : (m d : ℕ) → 1 ≤ m → jitter_cap m 0 d ≡ (d + (m - 1)) / m
jitter_cap-none m zero p = omega (arith, ceil_within m 0 0 p (omega arith))
jitter_cap-none m (suc d) p = ap (λ k. (k + (m - 1)) / m) (let e : suc d + 0 ≡ suc d = omega arith in e)

-- std's quotient rounded up is this one
pub div_ceil-is : (m x : ℕ) → 1 ≤ m → div_ceil x m ≡ (x + (m - 1)) / m
div_ceil-is m x p =
    let r = div_ceil_times x m p in
    omega (arith, ceil_from m (x / m + min 1 (x % m)) (x + (m - 1)) p (omega (arith, r.1)), ceil_within m (x / m + min 1 (x % m)) x p r.0)

-- of some ticks it is (d + j) / m, rounded up
pub jitter_cap-some : (m j d : ℕ) → 1 ≤ d → (d + j + (m - 1)) / m ≡ jitter_cap m j d
jitter_cap-some m j zero h = absurd (omega arith)
jitter_cap-some m j (suc d) h = refl

-- and so many times m ticks cover them
pub jitter_cap-covers : (m j d : ℕ) → 1 ≤ m → 1 ≤ d → d + j ≤ jitter_cap m j d * m
jitter_cap-covers m j zero p h = absurd (omega arith)
jitter_cap-covers m j (suc d) p h = ceil_covers m ((suc d + j + (m - 1)) / m) (suc d + j) p (omega arith)

pub jitter_cap-mono : (m j d e : ℕ) → 1 ≤ m → d ≤ e → jitter_cap m j d ≤ jitter_cap m j e
jitter_cap-mono m j zero e p h = omega arith
jitter_cap-mono m j (suc d) zero p h = absurd (omega arith)
jitter_cap-mono m j (suc d) (suc e) p h = ceil_from m ((suc d + j + (m - 1)) / m) (suc e + j + (m - 1)) p (omega (arith, div-mul-le_self (suc d + j + (m - 1)) m))

pub jitter_cap-le : (m j d : ℕ) → 1 ≤ m → jitter_cap m j d ≤ d + j
jitter_cap-le m j zero p = omega arith
jitter_cap-le m j (suc d) p = ceil_within m (suc d + j) (suc d + j) p (let up : (suc d + j) * 1 ≤ (suc d + j) * m = mul-le-mul_left (suc d + j) p in omega (arith, up))

pub jitter_cap-bounded : (m j d : ℕ) → 1 ≤ m → j ≤ 1000000000 → d ≤ 1000000 → jitter_cap m j d ≤ 2 ^ 40
jitter_cap-bounded m j d p g h = omega (arith, jitter_cap-le m j d p)

-- ---- its jumps

at_most : (m j c k : ℕ) → 1 ≤ m → k + j ≤ c * m → jitter_cap m j k ≤ c
at_most m j c zero p h = omega arith
at_most m j c (suc k) p h = ceil_within m c (suc k + j) p h

above : (m j c k : ℕ) → 1 ≤ m → 1 ≤ k → c * m < k + j → c < jitter_cap m j k
above m j c zero p some h = absurd (omega arith)
above m j c (suc k) p some h = ceil_from m (suc c) (suc k + j + (m - 1)) p (omega arith)

-- the tick after those that the entries so far fill
pub jitter_cap-jump : (m j d e : ℕ) → 1 ≤ m → 1 ≤ d → e ≡ jitter_cap m j d * m + 1 - j →
    (d < e) × FlatTo (jitter_cap m j) d (e - 1) × (jitter_cap m j d < jitter_cap m j e)
jitter_cap-jump m j zero e p some is = absurd (omega arith)
jitter_cap-jump m j (suc d) e p some is =
    let covers : suc d + j ≤ (suc d + j + (m - 1)) / m * m = ceil_covers m ((suc d + j + (m - 1)) / m) (suc d + j) p (omega arith) in
    let late : suc d < e = omega arith in (
      late,
      (λ k from to. omega (arith, jitter_cap-mono m j (suc d) k p from, at_most m j ((suc d + j + (m - 1)) / m) k p (omega arith))),
      above m j ((suc d + j + (m - 1)) / m) e p (omega arith) (omega arith),
    )

-- ---- lists that keep it

pub holds_cap-count : (cap : ℕ → ℕ) (ts : List ℕ) (u d : ℕ) → HoldsCap cap ts → count_in u d ts ≤ cap d
holds_cap-count cap ts u d h = h d u

pub holds_cap-prefix : (cap : ℕ → ℕ) (xs ys : List (ℕ × ℕ)) → HoldsCap cap (ticks_of (xs ++ ys)) → HoldsCap cap (ticks_of xs)
holds_cap-prefix cap xs ys h = λ d u. omega (arith, h d u, count_in-append u d xs ys)

-- without jitter: any m consecutive ticks hold at most one
pub holds_cap-none : (m : ℕ) → 1 ≤ m → (xs : List (ℕ × ℕ)) → HoldsCap (jitter_cap m 0) (ticks_of xs) ↔ HoldAtMost 1 m (ticks_of xs)
holds_cap-none m p xs = (
  (λ h u. omega (arith, h m u, jitter_cap-none m m p, ceil_within m 1 m p (omega arith))),
  (λ h d u. omega (arith, one_each_holds m p xs u d h, jitter_cap-none m d p)),
)
