-- Budgets and spacings when one event is added to a run.
use Rattle.std.proofs.Common.{◌≡◌, ℕ, suc, ◌+◌, ◌-◌, ◌≤◌, ◌<◌, ◌↔◌, List, [], ◌∷◌, ◌++◌, Option, Some, None, refl, sym, ap, ◌∙◌, arith, inl, inr, add-zero, add_assoc, length}
use Rattle.std.proofs.lemmas.Bool.{cases_lt}
use Rattle.dc_bound.specs.Window.{count_in, ticks_of, one_in, HoldAtLeast, HoldAtMost}
use Rattle.dc_bound.specs.Run.{ticks, picks, stamp, stamped}
use Rattle.dc_bound.specs.lemmas.Counts.{one_in_cases}

pub ticks_of-append : {X : Type 0} (xs ys : List (ℕ × X)) → ticks_of (xs ++ ys) ≡ ticks_of xs ++ ticks_of ys
ticks_of-append [] ys = refl
ticks_of-append (x ∷ xs) ys = ap (λ r. x.0 ∷ r) (ticks_of-append xs ys)

pub count-append : (u d : ℕ) (xs ys : List ℕ) → count_in u d (xs ++ ys) ≡ count_in u d xs + count_in u d ys
unfolding count_in
count-append u d [] ys = omega arith
count-append u d (x ∷ xs) ys = omega (arith, count-append u d xs ys)

stamp-count : {X : Type 0} (t : ℕ) (o : Option X) (rest : List (ℕ × X)) → length (ticks_of (stamp t o rest)) ≡ picks (λ (p : Option X). p) (o ∷ []) + length (ticks_of rest)
unfolding picks
stamp-count t None rest = omega arith
stamp-count t (Some x) rest = omega arith

pub stamped-count : {E X : Type 0} (f : E → ℕ) (pick : E → Option X) (t : ℕ) (es : List E) → length (ticks_of (stamped f pick t es)) ≡ picks pick es
unfolding stamped picks
stamped-count f pick t [] = refl
stamped-count f pick t (e ∷ es) = omega (arith, stamp-count t (pick e) (stamped f pick (t + f e) es), stamped-count f pick (t + f e) es)

pub count_in-push : (u d : ℕ) (ts : List ℕ) (t : ℕ) → count_in u d (ts ++ (t ∷ [])) ≡ count_in u d ts + one_in u d t
unfolding count_in
count_in-push u d [] t = omega arith
count_in-push u d (x ∷ ts) t = omega (arith, count_in-push u d ts t)

module _ {E X : Type 0} (ends : E → ℕ) (pick : E → Option X) where
  stamp-append : (t : ℕ) (o : Option X) (xs ys : List (ℕ × X)) → stamp t o (xs ++ ys) ≡ stamp t o xs ++ ys
  stamp-append t None xs ys = refl
  stamp-append t (Some x) xs ys = refl

  pub stamped-append : (t : ℕ) (a b : List E) → stamped ends pick t (a ++ b) ≡ stamped ends pick t a ++ stamped ends pick (t + ticks ends a) b
  unfolding stamped ticks
  stamped-append t [] b = ap (λ n. stamped ends pick n b) (sym (add-zero t))
  stamped-append t (e ∷ a) b =
      ap (λ r. stamp t (pick e) r) (stamped-append (t + ends e) a b)
      ∙ stamp-append t (pick e) (stamped ends pick (t + ends e) a) (stamped ends pick ((t + ends e) + ticks ends a) b)
      ∙ ap (λ n. stamp t (pick e) (stamped ends pick (t + ends e) a) ++ stamped ends pick n b) (add_assoc t (ends e) (ticks ends a))

-- a step in the tick that is not yet whole changes no budget
pub pace_step : (steps per whole : ℕ) (ts : List ℕ) → HoldAtLeast steps per whole (ts ++ (whole ∷ [])) ↔ HoldAtLeast steps per whole ts
pace_step steps per whole ts =
    let same : (u : ℕ) → u + per ≤ whole → count_in u per (ts ++ (whole ∷ [])) ≡ count_in u per ts = λ u h.
    elim (one_in_cases u per whole) [
      | inl w ↦ absurd (omega arith)
      | inr v ↦ elim v [ inl w ↦ omega (arith, count_in-push u per ts whole) | inr w ↦ omega (arith, count_in-push u per ts whole) ]
    ] in
    ((λ h u k. omega (arith, h u k, same u k)), (λ h u k. omega (arith, h u k, same u k)))

-- a tick may end where the last `per` ticks, with it, hold enough
pub pace_tick : (steps per whole : ℕ) (ts : List ℕ) → HoldAtLeast steps per (suc whole) ts ↔ (HoldAtLeast steps per whole ts × (per ≤ suc whole → steps ≤ count_in (suc whole - per) per ts))
pace_tick steps per whole ts = (
  (λ h. ((λ u k. h u (omega arith)), (λ k. h (suc whole - per) (omega arith)))),
  (λ h u k. elim (cases_lt (u + per) (suc whole)) [
    | inl l ↦ h.0 u (omega arith)
    | inr l ↦ let e : u ≡ suc whole - per = omega arith in rw e (h.1 (omega arith))
  ]),
)

one_in_le : (u d t : ℕ) → one_in u d t ≤ 1
one_in_le u d t = elim (one_in_cases u d t) [ inl w ↦ omega arith | inr v ↦ elim v [ inl w ↦ omega arith | inr w ↦ omega arith ] ]

-- one more step in tick t
pub most_step : (most : ℕ) (ts : List ℕ) (t : ℕ) → HoldAtMost most 1 (ts ++ (t ∷ [])) ↔ (HoldAtMost most 1 ts × (count_in t 1 ts < most))
most_step most ts t = (
  (λ h. ((λ u. omega (arith, h u, count_in-push u 1 ts t)), elim (one_in_cases t 1 t) [ inl w ↦ omega (arith, h t, count_in-push t 1 ts t) | inr v ↦ elim v [ inl w ↦ absurd (omega arith) | inr w ↦ absurd (omega arith) ] ])),
  (λ h u. elim (one_in_cases u 1 t) [
    | inl w ↦ let e : u ≡ t = omega arith in rw e (omega (arith, h.1, count_in-push t 1 ts t, one_in_le t 1 t))
    | inr v ↦ elim v [ inl w ↦ omega (arith, h.0 u, count_in-push u 1 ts t) | inr w ↦ omega (arith, h.0 u, count_in-push u 1 ts t) ]
  ]),
)
