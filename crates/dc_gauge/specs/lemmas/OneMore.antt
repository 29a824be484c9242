-- Intervals, first breaks and the last time, and one more word.
use Rattle.std.proofs.Common.{◌≡◌, ℕ, ◌+◌, ◌-◌, ◌*◌, ◌≤◌, min, max, ltb, Option, Some, None, List, [], ◌∷◌, ◌++◌, length, refl, sym, ap, ◌∙◌, subst, arith, inl, inr, append_assoc, length-append, cond}
use Rattle.std.specs.List.{All, Contains}
use Rattle.std.proofs.lemmas.Bool.{cases_lt}
use Rattle.std.proofs.lemmas.List.Elements.{All-nil, All-cons, All-push, All-weaker, Contains-append_left, Contains-append_right}
use Rattle.std.proofs.lemmas.List.Sums.{sum_by_push}
use Rattle.dc_bound.specs.Window.{ticks_of}
use Rattle.dc_bound.specs.Turns.{NeverFall}
use Rattle.dc_bound.specs.Early.{pace_of}
use Rattle.dc_bound.specs.lemmas.FirstPlaces.{snoc_induction}
use Rattle.dc_bound.specs.lemmas.Steps.{ticks_of-append}
use Rattle.dc_bound.specs.lemmas.Recent.{NoneLater}
use Rattle.dc_bound.specs.lemmas.Earliness.{none_later-push, none_later-nil, never_fall-last, never_fall-front}
use Rattle.dc_bound.specs.lemmas.Pacing.{pace_of-nil, pace_of-push}
use Rattle.dc_gauge.specs.Times.{intervals_of, IsLeastOf, IsGreatestOf, count_over, BreaksAt, last_time}
use Rattle.dc_gauge.specs.Steps.{least_with, greatest_with}

pub times-push : (xs : List (ℕ × ℕ)) (x : ℕ × ℕ) → ticks_of (xs ++ x ∷ []) ≡ ticks_of xs ++ x.0 ∷ []
times-push xs x = ticks_of-append xs (x ∷ [])

pub last_time-push : (ts : List ℕ) (t : ℕ) → last_time (ts ++ t ∷ []) ≡ t
last_time-push [] t = refl
last_time-push (a ∷ []) t = refl
last_time-push (a ∷ b ∷ ts) t = last_time-push (b ∷ ts) t

pub intervals_of-one : (t : ℕ) → intervals_of ([] ++ t ∷ []) ≡ []
unfolding intervals_of
intervals_of-one t = refl

pub intervals_of-push : (ts : List ℕ) (t : ℕ) → 1 ≤ length ts → intervals_of (ts ++ t ∷ []) ≡ intervals_of ts ++ (t - last_time ts) ∷ []
unfolding intervals_of
intervals_of-push [] t some = absurd (omega arith)
intervals_of-push (a ∷ []) t some = refl
intervals_of-push (a ∷ b ∷ ts) t some = ap (λ l. (b - a) ∷ l) (intervals_of-push (b ∷ ts) t (omega arith))

pub last_le : (ts : List ℕ) (t : ℕ) → NeverFall (ts ++ t ∷ []) → last_time ts ≤ t
unfolding NeverFall
last_le [] t h = omega arith
last_le (a ∷ []) t h = h.0
last_le (a ∷ b ∷ ts) t h = last_le (b ∷ ts) t h.1

pub length-push : {X : Type 0} (xs : List X) (x : X) → length (xs ++ x ∷ []) ≡ length xs + 1
length-push xs x = length-append xs (x ∷ []) ∙ omega arith

longer : (ts : List ℕ) (t m : ℕ) → length (ts ++ t ∷ []) * m ≡ length ts * m + m
longer ts t m = ap (λ n. n * m) (length-push ts t) ∙ omega arith

-- ---- the least and the greatest of some numbers, and one more

last_of : {X : Type 0} (xs : List X) (x : X) → Contains (xs ++ x ∷ []) x
last_of xs x = Contains-append_right xs (x ∷ []) x (0, omega arith, refl)

pub least_of-push : (xs : List ℕ) (o : Option ℕ) (x : ℕ) → IsLeastOf xs o → IsLeastOf (xs ++ x ∷ []) (Some (least_with o x))
least_of-push xs None x h = rw h ((0, omega arith, refl), All-cons (λ y. x ≤ y) x [] (omega arith) (All-nil (λ y. x ≤ y)))
least_of-push xs (Some n) x h =
    elim (cases_lt n x) [
      | inl l ↦
          let e : min n x ≡ n = omega arith in
          let P : ℕ → Type 0 = λ k. Contains (xs ++ x ∷ []) k × All (λ y. k ≤ y) (xs ++ x ∷ []) in
          subst P (sym e) (Contains-append_left xs (x ∷ []) n h.0, All-push (λ y. n ≤ y) xs x h.1 (omega arith))
      | inr l ↦
          let e : min n x ≡ x = omega arith in
          let P : ℕ → Type 0 = λ k. Contains (xs ++ x ∷ []) k × All (λ y. k ≤ y) (xs ++ x ∷ []) in
          subst P (sym e) (last_of xs x, All-push (λ y. x ≤ y) xs x (All-weaker (λ y. n ≤ y) (λ y. x ≤ y) (λ y g. omega arith) xs h.1) (omega arith))
    ]

pub greatest_of-push : (xs : List ℕ) (o : Option ℕ) (x : ℕ) → IsGreatestOf xs o → IsGreatestOf (xs ++ x ∷ []) (Some (greatest_with o x))
greatest_of-push xs None x h = rw h ((0, omega arith, refl), All-cons (λ y. y ≤ x) x [] (omega arith) (All-nil (λ y. y ≤ x)))
greatest_of-push xs (Some n) x h =
    elim (cases_lt n x) [
      | inl l ↦
          let e : max n x ≡ x = omega arith in
          let P : ℕ → Type 0 = λ k. Contains (xs ++ x ∷ []) k × All (λ y. y ≤ k) (xs ++ x ∷ []) in
          subst P (sym e) (last_of xs x, All-push (λ y. y ≤ x) xs x (All-weaker (λ y. y ≤ n) (λ y. y ≤ x) (λ y g. omega arith) xs h.1) (omega arith))
      | inr l ↦
          let e : max n x ≡ n = omega arith in
          let P : ℕ → Type 0 = λ k. Contains (xs ++ x ∷ []) k × All (λ y. y ≤ k) (xs ++ x ∷ []) in
          subst P (sym e) (Contains-append_left xs (x ∷ []) n h.0, All-push (λ y. y ≤ n) xs x h.1 (omega arith))
    ]

pub count_over-push : (most : ℕ) (xs : List ℕ) (x : ℕ) → count_over most (xs ++ x ∷ []) ≡ count_over most xs + cond (ltb most x) 1 0
count_over-push most xs x = sum_by_push (λ x. cond (ltb most x) 1 0) xs x

-- ---- the first break, and one more word

pub breaks-later : (P : List ℕ → Type 0) (xs : List (ℕ × ℕ)) (x : ℕ × ℕ) (line : ℕ) → BreaksAt P xs (Some line) → BreaksAt P (xs ++ x ∷ []) (Some line)
breaks-later P xs x line (before, time, after, is, kept, broken) = (before, time, after ++ x ∷ [], ap (λ l. l ++ x ∷ []) is ∙ append_assoc before ((time, line) ∷ after) (x ∷ []), kept, broken)

pub breaks-now : (P : List ℕ → Type 0) (xs : List (ℕ × ℕ)) (x : ℕ × ℕ) → BreaksAt P xs None → ¬ P (ticks_of xs ++ x.0 ∷ []) → BreaksAt P (xs ++ x ∷ []) (Some x.1)
breaks-now P xs x kept broken =
    let Q : List ℕ → Type 0 = λ ts. P ts → ⊥ in
    (xs, x.0, [], refl, kept, subst Q (sym (times-push xs x)) broken)

pub breaks-not : (P : List ℕ → Type 0) (xs : List (ℕ × ℕ)) (x : ℕ × ℕ) → P (ticks_of xs ++ x.0 ∷ []) → BreaksAt P (xs ++ x ∷ []) None
breaks-not P xs x kept = subst P (sym (times-push xs x)) kept

-- ---- times that never fall

pub last_none_later : (ts : List ℕ) → NeverFall ts → NoneLater (last_time ts) ts
last_none_later ts =
    snoc_induction (λ ts. NeverFall ts → NoneLater (last_time ts) ts) (λ order. none_later-nil 0) (λ ts t h order.
    rw (last_time-push ts t) (none_later-push t ts (never_fall-last ts t order))) ts

pub pace_of-bound : (m : ℕ) (ts : List ℕ) → NeverFall ts → pace_of m ts ≤ last_time ts + length ts * m
pace_of-bound m ts =
    snoc_induction (λ ts. NeverFall ts → pace_of m ts ≤ last_time ts + length ts * m) (λ order. omega (arith, pace_of-nil m)) (λ ts t h order.
    let rec = h (never_fall-front ts (t ∷ []) order) in
    let le : last_time ts ≤ t = last_le ts t order in
    omega (arith, pace_of-push m ts t, rec, last_time-push ts t, longer ts t m)) ts
