-- Where a cap jumps.
use Rattle.std.proofs.Common.{◌≡◌, ℕ, zero, suc, ◌+◌, ◌-◌, ◌*◌, ◌/◌, ◌<◌, ◌≤◌, min, List, Option, Some, None, length, take, get_or, refl, sym, ap, subst, ◌∙◌, arith, inl, inr}
use Rattle.std.specs.Prelude.{IfSome}
use Rattle.std.specs.Option.{unwrap_or}
use Rattle.std.specs.List.{sum_by}
use Rattle.std.proofs.lemmas.List.{take_all}
use Rattle.std.proofs.lemmas.List.Sums.{sum_by_more}
use Rattle.std.proofs.Math.Nat.{div-mul-le_self, div-add-mod', mod-lt, mul-le-mul_right}
use Rattle.std.proofs.lemmas.Bool.{cases_lt}
use Rattle.dc_bound.specs.Window.{FlatTo, IsKept, IsNextJump, wire_cap}
use Rattle.dc_bound.specs.lemmas.Sums.{sum_monotone}
use Rattle.dc_bound.specs.lemmas.Counts.{ceil_from, ceil_mono, wire_mono}
use Rattle.dc_bound.specs.Window.{earlier_jump}

-- ---- a function that never falls

abbrev pub Grows : (ℕ → ℕ) → Type 0
Grows f = (d e : ℕ) → d ≤ e → f d ≤ f e

-- it is flat where it is no more at the end
pub flat_by_end : (f : ℕ → ℕ) → Grows f → (d e : ℕ) → f e ≤ f d → FlatTo f d e
flat_by_end f grows d e end k from to = omega (arith, grows d k from, grows k e to)

-- ---- the sum of two

pub sum_jumps : (f g : ℕ → ℕ) → Grows f → Grows g → (d : ℕ) (a b : Option ℕ) → IsNextJump f d a → IsNextJump g d b → IsNextJump (λ e. f e + g e) d (earlier_jump a b)
sum_jumps f g f_grows g_grows d None None fj gj = λ k from to. omega (arith, fj k from to, gj k from to)
sum_jumps f g f_grows g_grows d None (Some j) fj gj =
    (gj.0, gj.1, (λ k from to. omega (arith, fj k from (omega (arith, gj.1)), gj.2 k from to)), omega (arith, gj.3, f_grows d j (omega (arith, gj.0))))
sum_jumps f g f_grows g_grows d (Some i) None fj gj =
    (fj.0, fj.1, (λ k from to. omega (arith, gj k from (omega (arith, fj.1)), fj.2 k from to)), omega (arith, fj.3, g_grows d i (omega (arith, fj.0))))
sum_jumps f g f_grows g_grows d (Some i) (Some j) fj gj = (
  omega (arith, fj.0, gj.0),
  omega (arith, fj.1),
  (λ k from to. omega (arith, fj.2 k from (omega arith), gj.2 k from (omega arith))),
  elim (cases_lt i j) [
    | inl l ↦
        let e : min i j ≡ i = omega arith in
        omega (arith, ap f e, ap g e, fj.3, g_grows d i (omega (arith, fj.0)))
    | inr l ↦
        let e : min i j ≡ j = omega arith in
        omega (arith, ap f e, ap g e, gj.3, f_grows d j (omega (arith, gj.0)))
  ],
)

-- ---- a jump that is known by its place

pub jump_found : (f : ℕ → ℕ) (d n : ℕ) (jump : Option ℕ) → (d < n) × FlatTo f d (n - 1) × (f d < f n) → IsKept n jump → IsNextJump f d jump
jump_found f d n None at far = λ k from to. at.1 k from (omega arith)
jump_found f d n (Some j) at found = (
  omega (arith, at.0, found.0),
  found.1,
  (λ k from to. at.1 k from (omega (arith, found.0))),
  omega (arith, at.2, ap f found.0),
)

-- ---- one entry in m ticks

ceil_at : (m c d : ℕ) → 1 ≤ m → d ≤ c * m → (d + (m - 1)) / m ≤ c
ceil_at m c d some h =
    elim (cases_lt c ((d + (m - 1)) / m)) [
      | inl l ↦ let up : suc c * m ≤ (d + (m - 1)) / m * m = mul-le-mul_right m l in absurd (omega (arith, div-mul-le_self (d + (m - 1)) m))
      | inr l ↦ l
    ]

-- the tick after those that the entries so far fill
pub ceil_jump : (m d j : ℕ) → 1 ≤ m → j ≡ (d + (m - 1)) / m * m + 1 →
    (d < j) × FlatTo (λ e. (e + (m - 1)) / m) d (j - 1) × ((d + (m - 1)) / m < (j + (m - 1)) / m)
ceil_jump m d j some is =
    let c : ℕ = (d + (m - 1)) / m in
    let covers : d ≤ (d + (m - 1)) / m * m = omega (arith, div-add-mod' (d + (m - 1)) m, mod-lt (d + (m - 1)) some) in (
      omega arith,
      (λ k from to. omega (arith, ceil_at m ((d + (m - 1)) / m) k some (omega arith), ceil_mono m d k some from)),
      (let more : suc ((d + (m - 1)) / m) ≤ (j + (m - 1)) / m = ceil_from m (suc ((d + (m - 1)) / m)) (j + (m - 1)) some (omega arith) in more),
    )

-- ---- the wire

-- fewer ticks than `words` words take carry no more than these
wire_before : (t s words k : ℕ) → 1 ≤ t → 1 ≤ s → 1 ≤ words → k < (words * s + (t - 1)) / t → wire_cap t s k ≤ words
wire_before t s words zero some_t some_s some h = omega arith
wire_before t s words (suc k) some_t some_s some h =
    let short : suc k * t < words * s =
    elim (cases_lt (suc k * t) (words * s)) [
      | inl l ↦ l
      | inr l ↦ absurd (omega (arith, ceil_at t (suc k) (words * s) some_t l))
    ] in
    elim (cases_lt (suc k * t / s) words) [
      | inl l ↦ omega arith
      | inr l ↦ let up : words * s ≤ suc k * t / s * s = mul-le-mul_right s l in absurd (omega (arith, div-mul-le_self (suc k * t) s))
    ]

wire_after : (t s words j : ℕ) → 1 ≤ s → 1 ≤ j → words * s ≤ j * t → words < wire_cap t s j
wire_after t s words zero some_s some h = absurd (omega arith)
wire_after t s words (suc j) some_s some h = omega (arith, ceil_from s words (suc j * t) some_s h)

-- the first tick count that carries one word more
pub wire_jump : (t s d j : ℕ) → 1 ≤ t → 1 ≤ s → 1 ≤ d → j ≡ (wire_cap t s d * s + (t - 1)) / t →
    (d < j) × FlatTo (wire_cap t s) d (j - 1) × (wire_cap t s d < wire_cap t s j)
wire_jump t s zero j some_t some_s some is = absurd (omega arith)
wire_jump t s (suc e) j some_t some_s some is =
    let words : ℕ = suc e * t / s + 1 in
    let fits : (suc e * t / s + 1) * s ≤ j * t =
    omega (arith, ap (λ x. x * t) is, div-add-mod' ((suc e * t / s + 1) * s + (t - 1)) t, mod-lt ((suc e * t / s + 1) * s + (t - 1)) some_t) in
    let over : suc e * t < (suc e * t / s + 1) * s = omega (arith, div-add-mod' (suc e * t) s, mod-lt (suc e * t) some_s) in
    let late : suc e < j = elim (cases_lt (suc e) j) [ inl l ↦ l | inr l ↦ (let back : j * t ≤ suc e * t = mul-le-mul_right t l in absurd (omega arith)) ] in (
      late,
      flat_by_end (wire_cap t s) (λ a b h. wire_mono t s a b some_s h) (suc e) (j - 1) (wire_before t s (suc e * t / s + 1) (j - 1) some_t some_s (omega arith) (omega (arith, is, late))),
      wire_after t s (suc e * t / s + 1) j some_s (omega (arith, late)) fits,
    )

-- ---- the sum of members

sum_grows : {B : Type 0} (cap : B → ℕ → ℕ) → ((b : B) (d e : ℕ) → d ≤ e → cap b d ≤ cap b e) → (bs : List B) → Grows (λ e. sum_by (λ b. cap b e) bs)
sum_grows cap grows bs d e h = sum_monotone cap grows bs d e h

pub same_jump : (f g : ℕ → ℕ) (d : ℕ) (jump : Option ℕ) → ((e : ℕ) → f e ≡ g e) → IsNextJump f d jump → IsNextJump g d jump
same_jump f g d None same h = λ k from to. omega (arith, h k from to, same k, same d)
same_jump f g d (Some j) same h = (h.0, h.1, (λ k from to. omega (arith, h.2 k from to, same k, same d)), omega (arith, h.3, same d, same j))

-- a number keeps one jump at most
pub one_kept : (n : ℕ) (jump other : Option ℕ) → IsKept n jump → IsKept n other → jump ≡ other
one_kept n None None a b = refl
one_kept n None (Some j) a b = absurd (omega (arith, a, b))
one_kept n (Some i) None a b = absurd (omega (arith, a, b))
one_kept n (Some i) (Some j) a b = ap Some (a.0 ∙ sym b.0)

-- the lesser of the numbers keeps the earlier of the jumps
pub earlier_kept : (n r : ℕ) (other jump : Option ℕ) → r ≡ min n (unwrap_or other 1000001) → IfSome other (λ j. j ≤ 1000000) → IsKept n jump → IsKept r (earlier_jump jump other)
earlier_kept n r None None is short kept = omega (arith, is, kept)
earlier_kept n r (Some j) None is short kept = (omega (arith, is, short, kept), short)
earlier_kept n r None (Some i) is short kept = (omega (arith, is, kept), kept.1)
earlier_kept n r (Some j) (Some i) is short kept = (omega (arith, is, short, kept), omega (arith, short, kept))

-- one member more
pub member_jumps : {B : Type 0} (cap : B → ℕ → ℕ) → ((b : B) (d e : ℕ) → d ≤ e → cap b d ≤ cap b e) →
    (bs : List B) (i : ℕ) (b : B) → i < length bs → b ≡ get_or bs i b →
    (d : ℕ) (jump next least : Option ℕ) → IsNextJump (λ e. sum_by (λ b. cap b e) (take i bs)) d jump → IsNextJump (cap b) d next →
    least ≡ earlier_jump jump next → IsNextJump (λ e. sum_by (λ b. cap b e) (take (i + 1) bs)) d least
member_jumps cap grows bs i b inside is d jump next least sum_at member_at which =
    let P : Option ℕ → Type 0 = λ o. IsNextJump (λ e. sum_by (λ x. cap x e) (take (i + 1) bs)) d o in
    subst P (sym which) (same_jump (λ e. sum_by (λ x. cap x e) (take i bs) + cap b e) (λ e. sum_by (λ x. cap x e) (take (i + 1) bs)) d (earlier_jump jump next)
    (λ e. omega (arith, sum_by_more (λ x. cap x e) bs i b inside, ap (λ x. cap x e) is))
    (sum_jumps (λ e. sum_by (λ x. cap x e) (take i bs)) (cap b) (sum_grows cap grows (take i bs)) (grows b) d jump next sum_at member_at))

-- all of them
pub all_members : {B : Type 0} (cap : B → ℕ → ℕ) (bs : List B) (i d : ℕ) (jump : Option ℕ) → length bs ≤ i → IsNextJump (λ e. sum_by (λ b. cap b e) (take i bs)) d jump → IsNextJump (λ e. sum_by (λ b. cap b e) bs) d jump
all_members {B} cap bs i d jump all h =
    let P : List B → Type 0 = λ l. IsNextJump (λ e. sum_by (λ b. cap b e) l) d jump in
    subst P (take_all i bs all) h
