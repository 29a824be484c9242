-- Windows of ticks and spans of microseconds: what is within one is within the other, and so are the caps.
use Rattle.std.proofs.Common.{◌≡◌, ℕ, zero, suc, ◌+◌, ◌-◌, ◌*◌, ◌/◌, ◌≤◌, List, [], ◌∷◌, refl, sym, ap, subst, arith, inl, inr, map}
use Rattle.std.proofs.Math.Nat.{mul-le-mul_right, mul-le-mul_left, div-mul-le_self, div-add-mod', mod-lt}
use Rattle.std.proofs.lemmas.Bool.{cases_lt}
use Rattle.dc_bound.specs.Window.{count_in, one_in, ticks_of, HoldAtMost, HoldsWire}
use Rattle.dc_bound.specs.Early.{HoldsCap, jitter_cap}
use Rattle.dc_bound.specs.lemmas.Counts.{one_in_cases, ceil_from}
use Rattle.dc_bound.specs.lemmas.Caps.{ceil_within, jitter_cap-covers, holds_cap-none}
use Rattle.dc_spans.specs.Spans.{Clock, KeepsPace, exact_clock, IsWithinTick, AreTimesOf}

-- ---- spans of a clock

module _ (clock : Clock) (paced : KeepsPace clock) where
  pub longest-some : 1 ≤ clock.longest
  longest-some = omega (arith, paced.some, paced.no_less 0, paced.no_more 0)

  after-least : (j n : ℕ) → clock.begins j + n * clock.shortest ≤ clock.begins (j + n)
  after-least j zero = let z : 0 * clock.shortest ≡ 0 = omega arith in let e : j + 0 ≡ j = omega arith in rw e (omega (arith, z))
  after-least j (suc n) = let e : j + suc n ≡ suc (j + n) = omega arith in rw e (omega (arith, after-least j n, paced.no_less (j + n)))

  after-most : (j n : ℕ) → clock.begins (j + n) ≤ clock.begins j + n * clock.longest
  after-most j zero = let z : 0 * clock.longest ≡ 0 = omega arith in let e : j + 0 ≡ j = omega arith in rw e (omega (arith, z))
  after-most j (suc n) = let e : j + suc n ≡ suc (j + n) = omega arith in rw e (omega (arith, after-most j n, paced.no_more (j + n)))

  -- n ticks after the begin of tick j, or more
  pub no-less : (j n k : ℕ) → j + n ≤ k → clock.begins j + n * clock.shortest ≤ clock.begins k
  no-less j n k h =
      let e : j + n + (k - (j + n)) ≡ k = omega arith in
      omega (arith, after-least j n, after-least (j + n) (k - (j + n)), ap clock.begins e)

  pub rises : (j k : ℕ) → j ≤ k → clock.begins j ≤ clock.begins k
  rises j k h = let z : 0 * clock.shortest ≡ 0 = omega arith in omega (arith, no-less j 0 k (omega arith), z)

  -- n ticks after it, or fewer
  pub no-more : (j n k : ℕ) → k ≤ j + n → clock.begins k ≤ clock.begins j + n * clock.longest
  no-more j n k h = omega (arith, after-most j n, rises k (j + n) h)

  -- ---- a window of whole ticks is within a span

  one_in-times : (u d k time : ℕ) → IsWithinTick clock k time → one_in u d k ≤ one_in (clock.begins u) (d * clock.longest) time
  one_in-times u d k time is =
      let from = is.from in
      let to = is.to in
      elim (one_in_cases u d k) [
        | inl w ↦ elim (one_in_cases (clock.begins u) (d * clock.longest) time) [
          | inl v ↦ omega arith
          | inr v ↦ elim v [
            | inl v ↦ absurd (omega (arith, v.0, rises u k w.0))
            | inr v ↦ absurd (omega (arith, v.0, no-more u d (suc k) (omega (arith, w.1))))
          ]
        ]
        | inr w ↦ elim w [ inl w ↦ omega arith | inr w ↦ omega arith ]
      ]

  -- ---- a span is within a window of whole ticks that is long enough

  one_in-ticks : (u l d k time : ℕ) → l ≤ d * clock.shortest → IsWithinTick clock k time → one_in (clock.begins u) l time ≤ one_in u d k
  one_in-ticks u l d k time long is =
      let from = is.from in
      let to = is.to in
      elim (one_in_cases (clock.begins u) l time) [
        | inl w ↦ elim (one_in_cases u d k) [
          | inl v ↦ omega arith
          | inr v ↦ elim v [
            | inl v ↦ absurd (omega (arith, w.0, rises (suc k) u (omega (arith, v.0))))
            | inr v ↦ absurd (omega (arith, w.1, no-less u d k v.0))
          ]
        ]
        | inr w ↦ elim w [ inl w ↦ omega arith | inr w ↦ omega arith ]
      ]

pub count-times : {X : Type 0} (clock : Clock) → KeepsPace clock → (xs ys : List (ℕ × X)) → AreTimesOf clock xs ys → (u d : ℕ) → count_in u d (ticks_of xs) ≤ count_in (clock.begins u) (d * clock.longest) (ticks_of ys)
unfolding count_in
count-times clock paced [] [] h u d = omega arith
count-times clock paced [] (y ∷ ys) h u d = absurd h
count-times clock paced (x ∷ xs) [] h u d = absurd h
count-times clock paced (x ∷ xs) (y ∷ ys) h u d = omega (arith, one_in-times clock paced u d x.0 y.0 h.0.1, count-times clock paced xs ys h.1 u d)

pub count-ticks : {X : Type 0} (clock : Clock) → KeepsPace clock → (xs ys : List (ℕ × X)) → AreTimesOf clock xs ys → (u l d : ℕ) → l ≤ d * clock.shortest → count_in (clock.begins u) l (ticks_of ys) ≤ count_in u d (ticks_of xs)
unfolding count_in
count-ticks clock paced [] [] h u l d long = omega arith
count-ticks clock paced [] (y ∷ ys) h u l d long = absurd h
count-ticks clock paced (x ∷ xs) [] h u l d long = absurd h
count-ticks clock paced (x ∷ xs) (y ∷ ys) h u l d long = omega (arith, one_in-ticks clock paced u l d x.0 y.0 long h.0.1, count-ticks clock paced xs ys h.1 u l d long)

-- ---- caps

-- so many times m, where c * m covers what is divided
pub cap-within : (m j c d : ℕ) → 1 ≤ m → d + j ≤ c * m → jitter_cap m j d ≤ c
cap-within m j c zero some h = omega arith
cap-within m j c (suc d) some h = ceil_within m c (suc d + j) some h

pub cap-scaled : (p j m late tick d : ℕ) → 1 ≤ tick → 1 ≤ m → m * tick ≤ p → j ≤ late * tick → jitter_cap p j (d * tick) ≤ jitter_cap m late d
cap-scaled p j m late tick zero some whole under over = let none : 0 * tick ≡ 0 = omega arith in rw none (omega arith)
cap-scaled p j m late tick (suc d) some whole under over =
    let c : ℕ = jitter_cap m late (suc d) in
    let covers : suc d + late ≤ c * m = jitter_cap-covers m late (suc d) whole (omega arith) in
    let scaled : (suc d + late) * tick ≤ (c * m) * tick = mul-le-mul_right tick covers in
    let more : c * (m * tick) ≤ c * p = mul-le-mul_left c under in
    let most : 1 ≤ p = omega (arith, mul-le-mul_right tick whole) in
    cap-within p j c (suc d * tick) most (omega arith)

-- a wire's, where the words are so much apart that it makes up for the ticks' length
pub wire-scaled : (gap longest tick spacing d : ℕ) → 1 ≤ gap → 1 ≤ longest → 1 ≤ spacing → spacing * longest ≤ gap * tick → jitter_cap gap 0 (d * longest) ≤ d * tick / spacing + 1
wire-scaled gap longest tick spacing d some long apart fit =
    let q : ℕ = d * longest / gap in
    let one : jitter_cap gap 0 (d * longest) ≤ q + 1 = cap-within gap 0 (q + 1) (d * longest) some (omega (arith, div-add-mod' (d * longest) gap, mod-lt (d * longest) some)) in
    let part : q * gap ≤ d * longest = div-mul-le_self (d * longest) gap in
    let a : q * (spacing * longest) ≤ q * (gap * tick) = mul-le-mul_left q fit in
    let b : (q * gap) * tick ≤ (d * longest) * tick = mul-le-mul_right tick part in
    let few : q * spacing ≤ d * tick = elim (cases_lt (d * tick) (q * spacing)) [
      | inl less ↦ (let up : suc (d * tick) * longest ≤ (q * spacing) * longest = mul-le-mul_right longest less in absurd (omega arith))
      | inr le ↦ le
    ] in
    omega (arith, one, ceil_from spacing q (d * tick) apart few)

-- ---- the laws

pub stream-scaled : (clock : Clock) (least jitter minimum late : ℕ) (ticks times : List (ℕ × ℕ)) → KeepsPace clock → 1 ≤ minimum → minimum * clock.longest ≤ least → jitter ≤ late * clock.longest
    → AreTimesOf clock ticks times → HoldsCap (jitter_cap least jitter) (ticks_of times) → HoldsCap (jitter_cap minimum late) (ticks_of ticks)
stream-scaled clock least jitter minimum late ticks times paced some under over same h = λ d u.
    omega (arith, count-times clock paced ticks times same u d, h (d * clock.longest) (clock.begins u), cap-scaled least jitter minimum late clock.longest d (longest-some clock paced) some under over)

pub wires-scaled : (clock : Clock) (gap tick spacing : ℕ) (ticks times : List (ℕ × ℕ)) → KeepsPace clock → 1 ≤ gap → 1 ≤ spacing → spacing * clock.longest ≤ gap * tick
    → AreTimesOf clock ticks times → HoldAtMost 1 gap (ticks_of times) → HoldsWire tick spacing (ticks_of ticks)
wires-scaled clock gap tick spacing ticks times paced some apart fit same h = λ d have u.
    let cap : HoldsCap (jitter_cap gap 0) (ticks_of times) = (holds_cap-none gap some times).1 h in
    omega (arith, count-times clock paced ticks times same u d, cap (d * clock.longest) (clock.begins u), wire-scaled gap clock.longest tick spacing d some (longest-some clock paced) apart fit)

pub exact-paced : (start tick : ℕ) → 1 ≤ tick → KeepsPace (exact_clock start tick)
exact-paced start tick some = record { some = some; no_less = λ k. omega arith; no_more = λ k. omega arith }

-- any list of numbers is one of ticks
abbrev as_entry : ℕ → ℕ × ℕ
as_entry t = (t, 0)

bare : (ts : List ℕ) → ticks_of (map as_entry ts) ≡ ts
bare [] = refl
bare (t ∷ ts) = ap (λ r. t ∷ r) (bare ts)

pub one-cap : (m : ℕ) → 1 ≤ m → (ts : List ℕ) → HoldAtMost 1 m ts → HoldsCap (jitter_cap m 0) ts
one-cap m some ts h =
    let xs : List (ℕ × ℕ) = map as_entry ts in
    let P : List ℕ → Type 0 = λ z. HoldsCap (jitter_cap m 0) z in
    let Q : List ℕ → Type 0 = λ z. HoldAtMost 1 m z in
    subst P (bare ts) ((holds_cap-none m some xs).1 (subst Q (sym (bare ts)) h))
