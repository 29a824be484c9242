-- Each step keeps the board's rule.
use Rattle.std.proofs.Common.{◌≡◌, ◌≢◌, ⊎_elim, inl, inr, ℕ, zero, suc, ◌+◌, ◌-◌, ◌<◌, ◌≤◌, max, List, [], ◌∷◌, ◌++◌, length, set, replicate, refl, sym, ap, subst, ◌∙◌, arith, le_trans, le_refl, slice_index, slice_set}
use Rattle.std.proofs.lemmas.List.{get_or-set_same, get_or-set_other, length-set, length-replicate}
use mathlib.Core.Logic.{dite}
use mathlib.Core.Option.{some, none, some-injective, some-ne-none}
use native.Mathlib.Decide.{ℕ_discrete, dec_le}
use lib.ListN.{get_elem?}
use Rattle.atomic_table.proofs.Lists.{at_set, at_snoc, at_longer, set_else}
use Rattle.atomic_table.specs.Table.{Me, step, keeps, Allows, Splits, opening}
use Rattle.dc_board.specs.declared.view.View.{View}
use Rattle.dc_board.specs.Marks.{fresh, raised, stepped_once, IsNoted, Fits, IsBoard, Notes, Reads}

-- a list that has an item has the new one in its place
here : {A : Type 0} (l : List A) (i : ℕ) (a b : A) → get_elem? l i ≡ some b → get_elem? (set l i a) i ≡ some a
here [] i a b e = absurd (some-ne-none b (sym e))
here (x ∷ xs) zero a b e = refl
here (x ∷ xs) (suc i) a b e = here xs i a b e

zero_at : (n i : ℕ) → slice_index (replicate n 0) i ≡ 0
zero_at zero i = refl
zero_at (suc n) zero = refl
zero_at (suc n) (suc i) = zero_at n i

-- a mark that was noted stays noted, where the seat that changes does not lose it
noted_still : (views : List View) (id : ℕ) (v w : View) (j n : ℕ) → get_elem? views id ≡ some v → (slice_index v.noted j ≡ n → slice_index w.noted j ≡ n)
    → IsNoted views j n → IsNoted (set views id w) j n
noted_still views id v w j n at same there =
    ⊎_elim
    (λ (z : n ≡ 0). inl z)
    (λ (t : (by : ℕ) × (u : View) × (get_elem? views by ≡ some u) × (slice_index u.noted j ≡ n)).
    dite (ℕ_discrete t.0 id)
    (λ e. inr (id, w, here views id w v at, same (ap (λ (x : View). slice_index x.noted j) (some-injective v t.1 (sym at ∙ subst (λ k. get_elem? views k ≡ some t.1) e t.2)) ∙ t.3)))
    (λ ne. inr (t.0, t.1, set_else views id t.0 w ne ∙ t.2, t.3)))
    there

-- one word rises, and one seat changes there alone
legal_after : (caps words : List ℕ) (views : List View) (id : ℕ) (v w : View) (i n : ℕ)
    → length words ≡ length caps + 1 → slice_index words 0 ≡ 0 → ((j : ℕ) → slice_index words (j + 1) ≤ slice_index caps j) → ((j : ℕ) → IsNoted views j (slice_index words (j + 1)))
    → ((by : ℕ) (u : View) → get_elem? views by ≡ some u → Fits caps words u)
    → get_elem? views id ≡ some v → i < length caps → slice_index words (i + 1) ≤ n → n ≤ slice_index caps i
    → Fits caps (set words (i + 1) n) w → ((j : ℕ) → j ≢ i → slice_index w.noted j ≡ slice_index v.noted j) → IsNoted (set views id w) i n
    → IsBoard caps (record { words = set words (i + 1) n; homes = []; views = set views id w })
legal_after caps words views id v w i n len seat most noted fits at small up below new same this =
    let inside : i + 1 < length words = omega (arith, len) in (
      length-set words (i + 1) n ∙ len,
      get_or-set_other words (i + 1) 0 n 0 (λ e. omega arith) ∙ seat,
      (λ j. dite (ℕ_discrete j i)
          (λ e. subst (λ k. slice_index (set words (i + 1) n) (k + 1) ≤ slice_index caps k) (sym e) (rw (get_or-set_same words (i + 1) n 0 inside) below))
          (λ ne. rw (get_or-set_other words (i + 1) (j + 1) n 0 (λ e. ne (omega arith))) (most j))),
      (λ j. dite (ℕ_discrete j i)
          (λ e. subst (λ k. IsNoted (set views id w) k (slice_index (set words (i + 1) n) (k + 1))) (sym e) (rw (get_or-set_same words (i + 1) n 0 inside) this))
          (λ ne. rw (get_or-set_other words (i + 1) (j + 1) n 0 (λ e. ne (omega arith))) (noted_still views id v w j _ at (λ e. same j ne ∙ e) (noted j)))),
      (λ by u there. ⊎_elim
          (λ (t : (by ≡ id) × (w ≡ u)). subst (Fits caps (set words (i + 1) n)) t.1 new)
          (λ (t : (by ≢ id) × (get_elem? views by ≡ some u)). let f = fits by u t.1 in (f.0, f.1, f.2, f.3, (λ j. le_trans (f.4 j) (rises j))))
          (at_set views id by w u there)),
    )
  where
    rises : (j : ℕ) → slice_index words (j + 1) ≤ slice_index (set words (i + 1) n) (j + 1)
    rises j = dite (ℕ_discrete j i)
        (λ e. subst (λ k. slice_index words (k + 1) ≤ slice_index (set words (i + 1) n) (k + 1)) (sym e) (rw (get_or-set_same words (i + 1) n 0 (omega (arith, len))) up))
        (λ ne. rw (get_or-set_other words (i + 1) (j + 1) n 0 (λ e. ne (omega arith))) (le_refl _))

-- a list of marks of which one is another
set_at : (xs : List ℕ) (i n : ℕ) → i < length xs → slice_index (slice_set xs i n) i ≡ n
set_at xs i n inside = get_or-set_same xs i n 0 inside

set_off : (xs : List ℕ) (i j n : ℕ) → j ≢ i → slice_index (slice_set xs i n) j ≡ slice_index xs j
set_off xs i j n ne = get_or-set_other xs i j n 0 ne

pub notes : (caps : List ℕ) (slots id : ℕ) (me : Me (Unit {0}) View) (i mark : ℕ) → i < length caps → mark ≤ slice_index caps i
    → Allows (IsBoard caps) slots id me (i + 1) (λ n. max n mark) (Notes (step slots (i + 1) mark 0 none) me)
notes caps slots id me i mark inside small s h homes at word =
    let v : View = me.0 in
    let found : ℕ = slice_index s.words (i + 1) in
    let w : View = record { caps = v.caps; noted = raised v.noted i mark; seen = slice_set v.seen i (max found mark); steps = v.steps + 1 } in
    let f : Fits caps s.words v = h.4 id v at in
    let there : i + 1 < length s.words = omega (arith, h.0) in
    let j_is : i + 1 - 1 ≡ i = omega arith in
    let noted_at : slice_index w.noted i ≡ max (slice_index v.noted i) mark = set_at v.noted i _ (omega (arith, f.1)) in
    let seen_at : slice_index w.seen i ≡ max found mark = set_at v.seen i _ (omega (arith, f.2)) in
    let noted_off : (j : ℕ) → j ≢ i → slice_index w.noted j ≡ slice_index v.noted j = λ j ne. set_off v.noted i j _ ne in
    let seen_off : (j : ℕ) → j ≢ i → slice_index w.seen j ≡ slice_index v.seen j = λ j ne. set_off v.seen i j _ ne in
    let fit : Fits caps (set s.words (i + 1) (max found mark)) w = (
      f.0,
      length-set v.noted i _ ∙ f.1,
      length-set v.seen i _ ∙ f.2,
      (λ j. dite (ℕ_discrete j i)
          (λ e. subst (λ k. slice_index w.noted k ≤ slice_index w.seen k) (sym e) (omega (arith, noted_at, seen_at, f.3 i, f.4 i)))
          (λ ne. omega (arith, noted_off j ne, seen_off j ne, f.3 j))),
      (λ j. dite (ℕ_discrete j i)
          (λ e. subst (λ k. slice_index w.seen k ≤ slice_index (set s.words (i + 1) (max found mark)) (k + 1)) (sym e) (omega (arith, seen_at, get_or-set_same s.words (i + 1) (max found mark) 0 there)))
          (λ ne. omega (arith, seen_off j ne, get_or-set_other s.words (i + 1) (j + 1) (max found mark) 0 (λ e. ne (omega arith)), f.4 j))),
    ) in
    let this : IsNoted (set s.views id w) i (max found mark) = dite (dec_le mark found)
    (λ le. noted_still s.views id v w i _ at (λ e. omega (arith, noted_at, e, le)) (subst (IsNoted s.views i) (omega (arith, le)) (h.3 i)))
    (λ nle. inr (id, w, here s.views id w v at, omega (arith, noted_at, f.3 i, f.4 i, nle))) in
    (w, keeps, tt, legal_after caps s.words s.views id v w i (max found mark) h.0 h.1 h.2 h.3 h.4 at inside (omega arith) (omega (arith, h.2 i, small)) fit noted_off this, rw j_is (f.4 i, refl))

pub reads : (caps : List ℕ) (slots id : ℕ) (me : Me (Unit {0}) View) (i : ℕ) → i < length caps → me.0.caps ≡ caps
    → Allows (IsBoard caps) slots id me (i + 1) (λ n. n) (Reads (step slots (i + 1) 0 0 none) me)
reads caps slots id me i inside caps_are s h homes at word =
    let v : View = me.0 in
    let found : ℕ = slice_index s.words (i + 1) in
    let w : View = record { caps = v.caps; noted = v.noted; seen = slice_set v.seen i found; steps = v.steps + 1 } in
    let f : Fits caps s.words v = h.4 id v at in
    let there : i + 1 < length s.words = omega (arith, h.0) in
    let j_is : i + 1 - 1 ≡ i = omega arith in
    let seen_at : slice_index w.seen i ≡ found = set_at v.seen i _ (omega (arith, f.2)) in
    let seen_off : (j : ℕ) → j ≢ i → slice_index w.seen j ≡ slice_index v.seen j = λ j ne. set_off v.seen i j _ ne in
    let fit : Fits caps (set s.words (i + 1) found) w = (
      f.0,
      f.1,
      length-set v.seen i _ ∙ f.2,
      (λ j. dite (ℕ_discrete j i)
          (λ e. subst (λ k. slice_index w.noted k ≤ slice_index w.seen k) (sym e) (omega (arith, seen_at, f.3 i, f.4 i)))
          (λ ne. omega (arith, seen_off j ne, f.3 j))),
      (λ j. dite (ℕ_discrete j i)
          (λ e. subst (λ k. slice_index w.seen k ≤ slice_index (set s.words (i + 1) found) (k + 1)) (sym e) (omega (arith, seen_at, get_or-set_same s.words (i + 1) found 0 there)))
          (λ ne. omega (arith, seen_off j ne, get_or-set_other s.words (i + 1) (j + 1) found 0 (λ e. ne (omega arith)), f.4 j))),
    ) in (
      w,
      keeps,
      tt,
      legal_after caps s.words s.views id v w i found h.0 h.1 h.2 h.3 h.4 at inside (le_refl _) (h.2 i) fit (λ j ne. refl) (noted_still s.views id v w i _ at (λ e. e) (h.3 i)),
      rw j_is (f.4 i, subst (λ cs. found ≤ slice_index cs i) (sym caps_are) (h.2 i), refl, seen_at),
    )

-- a seat that has noted and seen nothing fits
fits_fresh : (caps words : List ℕ) → Fits caps words (fresh caps)
fits_fresh caps words = (
  refl,
  length-replicate (length caps) 0,
  length-replicate (length caps) 0,
  (λ i. le_refl _),
  (λ i. omega (arith, zero_at (length caps) i)),
)

noted_longer : (views : List View) (u : View) (j n : ℕ) → IsNoted views j n → IsNoted (views ++ u ∷ []) j n
noted_longer views u j n there =
    ⊎_elim
    (λ (z : n ≡ 0). inl z)
    (λ (t : (by : ℕ) × (v : View) × (get_elem? views by ≡ some v) × (slice_index v.noted j ≡ n)). inr (t.0, t.1, at_longer views (u ∷ []) t.0 t.1 t.2, t.3))
    there

pub parts : (caps : List ℕ) (id : ℕ) (v : View) → v.caps ≡ caps → Splits (IsBoard caps) id v (stepped_once v) (fresh v.caps)
parts caps id v caps_are s h at =
    let left : View = stepped_once v in
    let right : View = fresh v.caps in (
      h.0,
      h.1,
      h.2,
      (λ j. noted_longer (set s.views id left) right j _ (noted_still s.views id v left j _ at (λ e. e) (h.3 j))),
      (λ by u there. ⊎_elim
          (λ (t : get_elem? (set s.views id left) by ≡ some u). ⊎_elim
          (λ (k : (by ≡ id) × (left ≡ u)). subst (Fits caps s.words) k.1 (h.4 id v at))
          (λ (k : (by ≢ id) × (get_elem? s.views by ≡ some u)). h.4 by u k.1)
          (at_set s.views id by left u t))
          (λ (t : right ≡ u). subst (Fits caps s.words) t (subst (λ cs. Fits caps s.words (fresh cs)) (sym caps_are) (fits_fresh caps s.words)))
          (at_snoc (set s.views id left) right u by there)),
    )

pub begins_with : (caps : List ℕ) (n : ℕ) → n ≡ length caps → IsBoard caps (opening (replicate (n + 1) 0) [] (fresh caps))
begins_with caps n is = (
  length-replicate (n + 1) 0 ∙ ap (λ k. k + 1) is,
  zero_at (n + 1) 0,
  (λ i. omega (arith, zero_at (n + 1) (i + 1))),
  (λ i. inl (zero_at (n + 1) (i + 1))),
  (λ by v there. ⊎_elim
      (λ (t : get_elem? [] by ≡ some v). absurd (some-ne-none v (sym t)))
      (λ (t : fresh caps ≡ v). subst (Fits caps (replicate (n + 1) 0)) t (fits_fresh caps (replicate (n + 1) 0)))
      (at_snoc [] (fresh caps) v by there)),
)
