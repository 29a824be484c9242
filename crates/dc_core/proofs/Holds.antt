-- What a window of step counts holds, by the ticks of all steps.
use Rattle.std.proofs.Common.{◌≡◌, ℕ, ◌+◌, ◌-◌, ◌<◌, ◌≤◌, ◌==◌, ◌&&◌, zero, suc, true, false, ltb, List, [], ◌∷◌, ◌++◌, length, drop, refl, ap, sym, ◌∙◌, arith, inl, inr, sum, eq-eqb}
use Rattle.std.proofs.lemmas.Bool.{cases_lt, and_parts, eqb-true, ltb-true, ltb-false}
use Rattle.std.proofs.lemmas.List.{length_push}
use Rattle.std.proofs.lemmas.List.Sums.{sum_by-append}
use Rattle.std.proofs.lemmas.List.FromFn.{length-map-range_with_len, map-range_with_len_more}
use Rattle.circular_buffer.specs.Buffer.{keep_last}
use Rattle.dc_queue.specs.WindowData.{WindowData, steps_of, added, turned, lacks}
use Rattle.dc_core.specs.Windows.{counts, finished, HoldsSteps}
use Rattle.dc_bound.specs.Window.{count_in}
use Rattle.dc_bound.specs.lemmas.Counts.{one_in_cases, count_in-zero}
use Rattle.dc_bound.specs.lemmas.Budget.{count_in_sum}
use Rattle.dc_bound.specs.lemmas.Steps.{count_in-push}
use Rattle.dc_bound.specs.lemmas.Recent.{NoneLater, recent}

sum-counts : (u n : ℕ) (ts : List ℕ) → sum (counts u n ts) ≡ count_in u n ts
sum-counts u zero ts = sym (count_in-zero u ts)
sum-counts u (suc n) ts =
    let e : 1 + n ≡ suc n = omega arith in
    omega (arith, sum-counts (u + 1) n ts, count_in_sum u 1 n ts, ap (λ x. count_in u x ts) e, sum_by-append (λ (k : ℕ). k) (count_in u 1 ts ∷ []) (counts (u + 1) n ts))

pub holds-total : (d room whole : ℕ) (ts : List ℕ) (w : WindowData) → HoldsSteps d room whole ts w → steps_of w ≡ count_in (whole - finished d whole) (finished d whole + 1) ts
holds-total d room whole ts w h =
    let at : whole - finished d whole + finished d whole ≡ whole = omega arith in
    omega (arith, ap sum h.past, sum-counts (whole - finished d whole) (finished d whole) ts, h.count, count_in_sum (whole - finished d whole) (finished d whole) 1 ts, ap (λ x. count_in x 1 ts) at)

pub holds-length : (d room whole : ℕ) (ts : List ℕ) (w : WindowData) → HoldsSteps d room whole ts w → length w.past ≡ finished d whole
holds-length d room whole ts w h = ap length h.past ∙ length-map-range_with_len (λ v. count_in v 1 ts) (whole - finished d whole) (finished d whole)

-- a full window's total is what the last d ticks hold
pub holds-recent : (d room whole : ℕ) (ts : List ℕ) (w : WindowData) → 0 < d → HoldsSteps d room whole ts w → d ≤ suc whole → steps_of w ≡ recent d whole ts
holds-recent d room whole ts w pos h full =
    let n : finished d whole + 1 ≡ d = omega arith in
    let at : whole - finished d whole ≡ suc whole - d = omega arith in
    holds-total d room whole ts w h ∙ ap (λ x. count_in (whole - finished d whole) x ts) n ∙ ap (λ x. count_in x d ts) at

-- it is just that the last d ticks, where there are so many, hold too few
pub lacks-true : (d room whole n : ℕ) (ts : List ℕ) (w : WindowData) → 0 < d → HoldsSteps d room whole ts w → lacks w n ≡ true → (d ≤ suc whole) × (recent d whole ts < n)
lacks-true d room whole n ts w pos h is =
    let p = and_parts (length w.past + 1 == w.width) (ltb (steps_of w) n) is in
    let full : length w.past + 1 ≡ w.width = eqb-true _ _ p.0 in
    let few : steps_of w < n = ltb-true _ _ p.1 in
    let long = holds-length d room whole ts w h in
    let all : d ≤ suc whole = omega (arith, h.width) in
    (all, omega (arith, holds-recent d room whole ts w pos h all))

pub lacks-false : (d room whole n : ℕ) (ts : List ℕ) (w : WindowData) → 0 < d → HoldsSteps d room whole ts w → lacks w n ≡ false → d ≤ suc whole → n ≤ recent d whole ts
lacks-false d room whole n ts w pos h is all =
    let long = holds-length d room whole ts w h in
    let full : (length w.past + 1 == w.width) ≡ true = eq-eqb _ _ (omega (arith, long, h.width)) in
    let enough : ltb (steps_of w) n ≡ false = sym (ap (λ b. b && ltb (steps_of w) n) full) ∙ is in
    omega (arith, ltb-false _ _ enough, holds-recent d room whole ts w pos h all)

-- ---- steps and ticks

counts-push : (u n t : ℕ) (ts : List ℕ) → u + n ≤ t → counts u n (ts ++ (t ∷ [])) ≡ counts u n ts
counts-push u zero t ts h = refl
counts-push u (suc n) t ts h =
    let here : count_in u 1 (ts ++ (t ∷ [])) ≡ count_in u 1 ts = elim (one_in_cases u 1 t) [ inl w ↦ absurd (omega arith) | inr v ↦ elim v [ inl w ↦ omega (arith, count_in-push u 1 ts t) | inr w ↦ omega (arith, count_in-push u 1 ts t) ] ] in
    let rest = counts-push (u + 1) n t ts (omega arith) in
    rw (here, rest) refl

pub holds-add : (d room whole : ℕ) (ts : List ℕ) (w : WindowData) → HoldsSteps d room whole ts w → HoldsSteps d room whole (ts ++ (whole ∷ [])) (added w)
holds-add d room whole ts w h = record {
  width = h.width;
  room = h.room;
  past = h.past ∙ sym (counts-push (whole - finished d whole) (finished d whole) whole ts (omega arith));
  count = elim (one_in_cases whole 1 whole) [ inl v ↦ omega (arith, h.count, count_in-push whole 1 ts whole) | inr v ↦ elim v [ inl w ↦ absurd (omega arith) | inr w ↦ absurd (omega arith) ] ];
}

-- the counts with one tick more are those of the next window
turn_past : (d whole : ℕ) (ts past : List ℕ) (count width : ℕ) → 0 < d → width ≡ d → past ≡ counts (whole - finished d whole) (finished d whole) ts → count ≡ count_in whole 1 ts → length past ≡ finished d whole
    → keep_last (width - 1) (past ++ count ∷ []) ≡ counts (suc whole - finished d (suc whole)) (finished d (suc whole)) ts
turn_past d whole ts past count width pos wide is now long =
    let f = λ (v : ℕ). count_in v 1 ts in
    let at : whole - finished d whole + finished d whole ≡ whole = omega arith in
    let all : past ++ count ∷ [] ≡ counts (whole - finished d whole) (finished d whole + 1) ts =
    rw (is, now) (sym (map-range_with_len_more (λ v. count_in v 1 ts) (whole - finished d whole) (finished d whole) whole at)) in
    let n : length (past ++ count ∷ []) ≡ finished d whole + 1 = omega (arith, length_push past count) in
    elim (cases_lt whole (d - 1)) [
      | inl young ↦
          let k : length (past ++ count ∷ []) - (width - 1) ≡ 0 = omega arith in
          let m : finished d whole + 1 ≡ finished d (suc whole) = omega arith in
          let u : whole - finished d whole ≡ suc whole - finished d (suc whole) = omega arith in
          rw k (all ∙ ap (λ m. counts (whole - finished d whole) m ts) m ∙ ap (λ u. counts u (finished d (suc whole)) ts) u)
      | inr old ↦
          let k : length (past ++ count ∷ []) - (width - 1) ≡ 1 = omega arith in
          let m : finished d whole ≡ finished d (suc whole) = omega arith in
          let u : whole - finished d whole + 1 ≡ suc whole - finished d (suc whole) = omega arith in
          let one : finished d whole + 1 ≡ suc (finished d whole) = omega arith in
          rw k (ap (λ l. drop 1 l) (all ∙ ap (λ m. counts (whole - finished d whole) m ts) one) ∙ ap (λ m. counts (whole - finished d whole + 1) m ts) m ∙ ap (λ u. counts u (finished d (suc whole)) ts) u)
    ]

pub holds-turn : (d room whole : ℕ) (ts : List ℕ) (w : WindowData) → 0 < d → NoneLater whole ts → HoldsSteps d room whole ts w → HoldsSteps d room (suc whole) ts (turned w)
holds-turn d room whole ts w pos none h = record {
  width = h.width;
  room = h.room;
  past = turn_past d whole ts w.past w.count w.width pos h.width h.past h.count (holds-length d room whole ts w h);
  count = sym (none (suc whole) 1 (omega arith));
}

pub holds-new : (d room : ℕ) (w : WindowData) → w ≡ record { width = d; room = room; past = []; count = 0 } → HoldsSteps d room 0 [] w
unfolding count_in
holds-new d room w e =
    let z : finished d 0 ≡ 0 = omega arith in
    record { width = ap (λ (w : WindowData). w.width) e; room = ap (λ (w : WindowData). w.room) e; past = ap (λ (w : WindowData). w.past) e ∙ sym (ap (λ n. counts (0 - finished d 0) n []) z); count = ap (λ (w : WindowData). w.count) e }
