-- Early words: what is kept keeps the cap.
use Rattle.std.proofs.Common.{◌≡◌, ℕ, zero, suc, ◌+◌, ◌-◌, ◌≤◌, ◌<◌, ◌↔◌, true, false, cond, is_some, ltb, List, [], ◌∷◌, ◌++◌, refl, sym, ap, ◌∙◌, arith, inl, inr}
use Rattle.std.proofs.lemmas.Bool.{cases_lt, cases_Bool, ltb-true, ltb-false}
use Rattle.dc_bound.specs.Window.{count_in, one_in}
use Rattle.dc_bound.specs.Places.{least_where}
use Rattle.dc_bound.specs.lemmas.FirstPlaces.{least_where-cases, least_where-none, snoc_induction}
use Rattle.dc_bound.specs.lemmas.Counts.{one_in_cases, count_in-zero, count_in-nil}
use Rattle.dc_bound.specs.lemmas.Budget.{count_in_sum}
use Rattle.dc_bound.specs.lemmas.Steps.{count_in-push}
use Rattle.dc_bound.specs.lemmas.Recent.{NoneLater, most_push}
use Rattle.dc_bound.specs.lemmas.Jumps.{Grows}
use Rattle.dc_bound.specs.Turns.{NeverFall}
use Rattle.dc_bound.specs.Early.{HoldsCap, up_to, would_pass, keep_from, admitted}

-- ---- none later

pub none_later-nil : (t : ℕ) → NoneLater t []
unfolding count_in
none_later-nil t u d h = refl

pub none_later-push : (t : ℕ) (ts : List ℕ) → NoneLater t ts → NoneLater t (ts ++ t ∷ [])
none_later-push t ts h u d late =
    elim (one_in_cases u d t) [
      | inl w ↦ absurd (omega arith)
      | inr v ↦ elim v [ inl w ↦ omega (arith, h u d late, count_in-push u d ts t) | inr w ↦ omega (arith, h u d late, count_in-push u d ts t) ]
    ]

pub none_later-rise : (t k : ℕ) (ts : List ℕ) → t ≤ k → NoneLater t ts → NoneLater k ts
none_later-rise t k ts le h u d late = h u d (omega arith)

-- ---- what the test says

-- a longer window that ends in the same tick, from before the start on, holds no more
past_start : (d t : ℕ) (ts : List ℕ) → NoneLater t ts → suc t ≤ d → up_to d t ts ≡ up_to (suc t) t ts
past_start d t ts none far =
    let z : suc t - d ≡ 0 = omega arith in
    let y : suc t - suc t ≡ 0 = omega arith in
    let e : d ≡ suc t + (d - suc t) = omega arith in
    omega (arith, ap (λ u. count_in u d ts) z, ap (λ u. count_in u (suc t) ts) y, ap (λ k. count_in 0 k ts) e, count_in_sum 0 (suc t) (d - suc t) ts, none (suc t) (d - suc t) (omega arith))

-- none of the windows that end in the tick, and begin in one, passes the cap
pub fits_within : (cap : ℕ → ℕ) (ts : List ℕ) (t : ℕ) → would_pass cap ts t ≡ false → (d : ℕ) → d ≤ suc t → up_to d t (ts ++ t ∷ []) ≤ cap d
unfolding would_pass
fits_within cap ts t e d le =
    elim (least_where-cases (λ d. ltb (cap d) (up_to d t (ts ++ t ∷ []))) (suc t)) [
      | inl h ↦ ltb-false (cap d) (up_to d t (ts ++ t ∷ [])) (h d le)
      | inr r ↦ absurd (let no : is_some (least_where (λ d. ltb (cap d) (up_to d t (ts ++ t ∷ []))) (suc t)) ≡ true = ap is_some r.1.found in (let b : true ≡ false = sym no ∙ e in cc))
    ]

-- nor does any longer one
pub fits_all : (cap : ℕ → ℕ) → Grows cap → (ts : List ℕ) (t : ℕ) → NoneLater t ts → would_pass cap ts t ≡ false → (d : ℕ) → up_to d t (ts ++ t ∷ []) ≤ cap d
fits_all cap grows ts t none e d =
    elim (cases_lt d (suc (suc t))) [
      | inl l ↦ fits_within cap ts t e d (omega arith)
      | inr l ↦ omega (arith, past_start d t (ts ++ t ∷ []) (none_later-push t ts none) (omega arith), fits_within cap ts t e (suc t) (omega arith), grows (suc t) d (omega arith))
    ]

-- some window that ends in the tick passes the cap
pub some_passes : (cap : ℕ → ℕ) (ts : List ℕ) (t : ℕ) → would_pass cap ts t ≡ true → (d : ℕ) × (d ≤ suc t) × (cap d < up_to d t (ts ++ t ∷ []))
unfolding would_pass
some_passes cap ts t e =
    elim (least_where-cases (λ d. ltb (cap d) (up_to d t (ts ++ t ∷ []))) (suc t)) [
      | inl h ↦ absurd (let no : is_some (least_where (λ d. ltb (cap d) (up_to d t (ts ++ t ∷ []))) (suc t)) ≡ false = ap is_some (least_where-none _ (suc t) h) in (let b : true ≡ false = sym e ∙ no in cc))
      | inr r ↦ (r.0, r.1.bound, ltb-true (cap r.0) (up_to r.0 t (ts ++ t ∷ [])) r.1.passes)
    ]

-- the test fails where every window has room
pub fits : (cap : ℕ → ℕ) (ts : List ℕ) (t : ℕ) → ((d : ℕ) → d ≤ suc t → up_to d t (ts ++ t ∷ []) ≤ cap d) → would_pass cap ts t ≡ false
fits cap ts t h =
    elim (cases_Bool (would_pass cap ts t)) [
      | inl e ↦ (let r = some_passes cap ts t e in absurd (omega (arith, h r.0 r.1, r.2)))
      | inr e ↦ e
    ]

-- ---- what is kept

-- a kept word keeps the cap
pub kept-holds : (cap : ℕ → ℕ) → Grows cap → (ts : List ℕ) (t : ℕ) → NoneLater t ts → HoldsCap cap ts → would_pass cap ts t ≡ false → HoldsCap cap (ts ++ t ∷ [])
kept-holds cap grows ts t none h e zero u = omega (arith, count_in-zero u (ts ++ t ∷ []))
kept-holds cap grows ts t none h e (suc d) u =
    let room = fits_all cap grows ts t none e (suc d) in
    let step = most_push (cap (suc d)) (suc d) t ts (omega arith) none in
    step.1 (
      h (suc d),
      elim (one_in_cases (suc t - suc d) (suc d) t) [
        | inl w ↦ omega (arith, count_in-push (suc t - suc d) (suc d) ts t, room)
        | inr v ↦ elim v [ inl w ↦ absurd (omega arith) | inr w ↦ absurd (omega arith) ]
      ],
    ) u

-- so a word is early exactly where the kept words with it would break the cap
pub early_iff : (cap : ℕ → ℕ) → Grows cap → (ts : List ℕ) (t : ℕ) → NoneLater t ts → HoldsCap cap ts → (would_pass cap ts t ≡ false) ↔ HoldsCap cap (ts ++ t ∷ [])
early_iff cap grows ts t none h = (
  (λ e. kept-holds cap grows ts t none h e),
  (λ k. fits cap ts t (λ d le. k d (suc t - d))),
)

-- ---- one more offered word

keep_from-append : (cap : ℕ → ℕ) (kept xs ys : List ℕ) → keep_from cap kept (xs ++ ys) ≡ keep_from cap (keep_from cap kept xs) ys
keep_from-append cap kept [] ys = refl
keep_from-append cap kept (t ∷ xs) ys = keep_from-append cap (cond (would_pass cap kept t) kept (kept ++ t ∷ [])) xs ys

pub admitted-nil : (cap : ℕ → ℕ) → admitted cap [] ≡ []
unfolding admitted
admitted-nil cap = refl

pub admitted-push : (cap : ℕ → ℕ) (ts : List ℕ) (t : ℕ) → admitted cap (ts ++ t ∷ []) ≡ cond (would_pass cap (admitted cap ts) t) (admitted cap ts) (admitted cap ts ++ t ∷ [])
unfolding admitted
admitted-push cap ts t = keep_from-append cap [] ts (t ∷ [])

-- no more is kept than was offered
pub admitted-fewer : (cap : ℕ → ℕ) (u d : ℕ) (ts : List ℕ) → count_in u d (admitted cap ts) ≤ count_in u d ts
admitted-fewer cap u d ts =
    snoc_induction (λ ts. count_in u d (admitted cap ts) ≤ count_in u d ts) (rw (admitted-nil cap) (omega arith)) (λ ts t h.
    rw (admitted-push cap ts t, count_in-push u d ts t)
    (elim (would_pass cap (admitted cap ts) t) as (λ b. count_in u d (cond b (admitted cap ts) (admitted cap ts ++ t ∷ [])) ≤ count_in u d ts + one_in u d t) [
      | true ↦ omega (arith, h)
      | false ↦ omega (arith, h, count_in-push u d (admitted cap ts) t)
    ])) ts

pub admitted-none_later : (cap : ℕ → ℕ) (t : ℕ) (ts : List ℕ) → NoneLater t ts → NoneLater t (admitted cap ts)
admitted-none_later cap t ts h u d late = omega (arith, admitted-fewer cap u d ts, h u d late)

-- ---- ticks in order

never_fall-absurd : (t k : ℕ) (ts : List ℕ) → t < k → NeverFall (k ∷ (ts ++ t ∷ [])) → ⊥
unfolding NeverFall
never_fall-absurd t k [] l h = omega (arith, h.0)
never_fall-absurd t k (s ∷ ts) l h = never_fall-absurd t s ts (omega (arith, h.0)) h.1

never_fall-later : (t k : ℕ) (ts : List ℕ) (u d : ℕ) → NeverFall (k ∷ (ts ++ t ∷ [])) → t < u → count_in u d (k ∷ ts) ≡ 0
unfolding NeverFall count_in
never_fall-later t k [] u d h late = elim (one_in_cases u d k) [ inl w ↦ absurd (omega (arith, h.0)) | inr v ↦ elim v [ inl w ↦ omega arith | inr w ↦ omega arith ] ]
never_fall-later t k (s ∷ ts) u d h late =
    elim (one_in_cases u d k) [
      | inl w ↦ absurd (never_fall-absurd t s ts (omega (arith, h.0)) h.1)
      | inr v ↦ elim v [ inl w ↦ omega (arith, never_fall-later t s ts u d h.1 late) | inr w ↦ omega (arith, never_fall-later t s ts u d h.1 late) ]
    ]

-- ticks that never fall: each is no earlier than all before it
pub never_fall-last : (ts : List ℕ) (t : ℕ) → NeverFall (ts ++ t ∷ []) → NoneLater t ts
never_fall-last [] t h = none_later-nil t
never_fall-last (k ∷ ts) t h = λ u d late. never_fall-later t k ts u d h late

pub never_fall-front : (xs ys : List ℕ) → NeverFall (xs ++ ys) → NeverFall xs
unfolding NeverFall
never_fall-front [] ys h = tt
never_fall-front (x ∷ []) ys h = tt
never_fall-front (x ∷ y ∷ xs) ys h = (h.0, never_fall-front (y ∷ xs) ys h.1)

-- ---- the theorem: of offered ticks in order, what is kept keeps the cap in any d consecutive ticks

pub admitted-holds : (cap : ℕ → ℕ) → Grows cap → (ts : List ℕ) → NeverFall ts → HoldsCap cap (admitted cap ts)
admitted-holds cap grows ts =
    snoc_induction (λ ts. NeverFall ts → HoldsCap cap (admitted cap ts)) (λ order. rw (admitted-nil cap) (λ d u. rw (count_in-nil u d) (omega arith))) (λ ts t h order.
    let rest = h (never_fall-front ts (t ∷ []) order) in
    let none = admitted-none_later cap t ts (never_fall-last ts t order) in
    elim (cases_Bool (would_pass cap (admitted cap ts) t)) [
      | inl e ↦ rw (admitted-push cap ts t, e) rest
      | inr e ↦ rw (admitted-push cap ts t, e) (kept-holds cap grows (admitted cap ts) t none rest e)
    ]) ts
