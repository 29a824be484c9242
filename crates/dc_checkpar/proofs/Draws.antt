-- The steps of the claim counter keep its rule.
use Rattle.std.proofs.Common.{◌≡◌, ℕ, zero, suc, ◌+◌, ◌%◌, ◌^◌, ◌<◌, ◌≤◌, ◌≢◌, true, false, List, [], ◌∷◌, ◌++◌, length, set, sym, refl, ap, subst, ◌∙◌, ⊎_elim, arith}
use Rattle.std.specs.Prelude.{if◌then◌else◌, ◌==◌, nat_le, slice_index}
use Rattle.std.proofs.lemmas.List.{get_or-set_same, get_or-set_other, length-set}
use Rattle.std.proofs.lemmas.Bool.Decides.{nat_tests}
use Rattle.atomic_table.proofs.Lists.{at_set, at_snoc}
use Rattle.atomic_table.specs.Table.{Me, step, keeps, Allows, Splits}
use Rattle.dc_checkpar.specs.Drawing.{follower, led, with_drawn, times, past, total, once_below, Given, Draws}
use Rattle.dc_checkpar.specs.declared.view.View.{View}
use mathlib.Core.Option.{none, some, some-injective, some-ne-none}
use lib.ListN.{get_elem?}

-- the total after one view changes
total_set : (f : View → ℕ) (views : List View) (id : ℕ) (v w : View) → get_elem? views id ≡ some v → total f (set views id w) + f v ≡ total f views + f w
total_set f [] id v w e = absurd (some-ne-none v (sym e))
total_set f (x ∷ xs) zero v w e = omega (arith, ap f (some-injective x v e))
total_set f (x ∷ xs) (suc i) v w e = omega (arith, total_set f xs i v w e)

-- and after one more
total_more : (f : View → ℕ) (views : List View) (w : View) → total f (views ++ w ∷ []) ≡ total f views + f w
total_more f [] w = omega arith
total_more f (x ∷ xs) w = omega (arith, total_more f xs w)

-- each at most 1
total_small : (f : View → ℕ) (views : List View) → ((by : ℕ) (v : View) → get_elem? views by ≡ some v → f v ≤ 1) → total f views ≤ length views
total_small f [] h = omega arith
total_small f (x ∷ xs) h = omega (arith, h zero x refl, total_small f xs (λ by v e. h (suc by) v e))

times_more : (x : ℕ) (ys : List ℕ) (n : ℕ) → times x (ys ++ n ∷ []) ≡ times x ys + (if n == x then 1 else 0)
times_more x [] n = omega arith
times_more x (y ∷ ys) n = omega (arith, times_more x ys n)

past_more : (jobs : ℕ) (ys : List ℕ) (n : ℕ) → past jobs (ys ++ n ∷ []) ≡ past jobs ys + (if nat_le jobs n then 1 else 0)
past_more jobs [] n = omega arith
past_more jobs (y ∷ ys) n = omega (arith, past_more jobs ys n)

once_more : (x n : ℕ) → once_below x (n + 1) ≡ once_below x n + (if n == x then 1 else 0)
once_more x n = grind (arith, nat_tests)

-- the number after the next is a job's, or one more view has one past the last
next_fits : (jobs n t : ℕ) → n ≤ jobs + t → n + 1 ≤ jobs + (t + (if nat_le jobs n then 1 else 0))
next_fits jobs n t h = grind (arith, nat_tests, h)

one_at_most : (jobs n : ℕ) → (if nat_le jobs n then 1 else 0) ≤ 1
one_at_most jobs n = grind (arith, nat_tests)

no_wrap : (n : ℕ) → n + 1 < 2 ^ 64 → (n + 1) % 2 ^ 64 ≡ n + 1
no_wrap n h = grind (arith, h)

-- a step that draws
pub draws : (jobs slots id : ℕ) (me : Me (Unit {0}) View) → jobs < 2 ^ 63 → past jobs me.0.drawn ≡ 0
    → Allows (Given jobs) slots id me 1 (λ n. (n + 1) % 2 ^ 64) (Draws (step slots 1 1 0 none) me)
draws jobs slots id me small fresh s h homes at word =
    let n : ℕ = slice_index s.words 1 in
    let v : View = me.0 in
    let w : View = with_drawn v n in
    let few : total (λ (u : View). past jobs u.drawn) s.views ≤ length s.views = total_small (λ (u : View). past jobs u.drawn) s.views (λ by u e. (h.5 by u e).1) in
    let one : (n + 1) % 2 ^ 64 ≡ n + 1 = no_wrap n (omega (arith, few, h.3, h.4)) in
    let now : slice_index (set s.words 1 ((n + 1) % 2 ^ 64)) 1 ≡ n + 1 = get_or-set_same s.words 1 ((n + 1) % 2 ^ 64) 0 (omega (arith, h.0)) ∙ one in
    let len : length (set s.views id w) ≡ length s.views = length-set s.views id w in
    let mine = h.5 id v at in (
      w,
      keeps,
      tt,
      (
        length-set s.words 1 ((n + 1) % 2 ^ 64) ∙ h.0,
        get_or-set_other s.words 1 0 ((n + 1) % 2 ^ 64) 0 (λ e. omega arith) ∙ h.1,
        (λ x. subst (λ k. total (λ (u : View). times x u.drawn) (set s.views id w) ≡ once_below x k) (sym now)
            (omega (arith, total_set (λ (u : View). times x u.drawn) s.views id v w at, times_more x v.drawn n, once_more x n, h.2 x))),
        subst (λ k. k ≤ jobs + total (λ (u : View). past jobs u.drawn) (set s.views id w)) (sym now)
            (omega (arith, total_set (λ (u : View). past jobs u.drawn) s.views id v w at, past_more jobs v.drawn n, fresh, next_fits jobs n (total (λ (u : View). past jobs u.drawn) s.views) h.3)),
        omega (arith, len, h.4),
        (λ by u there. ⊎_elim
            (λ (t : (by ≡ id) × (w ≡ u)).
            subst (λ (z : View). (z.jobs ≡ jobs) × (past jobs z.drawn ≤ 1) × (z.leads ≡ true → (by ≡ 0) × (length (set s.views id w) ≡ z.splits + 1))) t.1
            (mine.0, omega (arith, past_more jobs v.drawn n, fresh, one_at_most jobs n), (λ leads. let l = mine.2 leads in (t.0 ∙ l.0, len ∙ l.1))))
            (λ (t : (by ≢ id) × (get_elem? s.views by ≡ some u)). let f = h.5 by u t.1 in (f.0, f.1, (λ leads. let l = f.2 leads in (l.0, len ∙ l.1))))
            (at_set s.views id by w u there)),
      ),
      refl,
    )

-- the first drawer splits off another
pub parts : (jobs id : ℕ) (v : View) → v.jobs ≡ jobs → v.leads ≡ true → v.splits < 63 → Splits (Given jobs) id v (led v) (follower v.jobs)
parts jobs id v same leads few s h at =
    let mine = h.5 id v at in
    let first = mine.2 leads in
    let w : View = led v in
    let new : View = follower v.jobs in
    let len : length (set s.views id w ++ new ∷ []) ≡ length s.views + 1 = omega (arith, length-set s.views id w, length_more (set s.views id w) new) in (
      h.0,
      h.1,
      (λ x. omega (arith, total_set (λ (u : View). times x u.drawn) s.views id v w at, total_more (λ (u : View). times x u.drawn) (set s.views id w) new, h.2 x)),
      omega (arith, total_set (λ (u : View). past jobs u.drawn) s.views id v w at, total_more (λ (u : View). past jobs u.drawn) (set s.views id w) new, h.3),
      omega (arith, len, first.1, few),
      (λ by u there. ⊎_elim
          (λ (e : get_elem? (set s.views id w) by ≡ some u). ⊎_elim
          (λ (t : (by ≡ id) × (w ≡ u)).
          subst (λ (z : View). (z.jobs ≡ jobs) × (past jobs z.drawn ≤ 1) × (z.leads ≡ true → (by ≡ 0) × (length (set s.views id w ++ new ∷ []) ≡ z.splits + 1))) t.1
          (mine.0, mine.1, (λ l. (t.0 ∙ first.0, omega (arith, len, first.1)))))
          (λ (t : (by ≢ id) × (get_elem? s.views by ≡ some u)). let f = h.5 by u t.1 in (f.0, f.1, (λ l. absurd (t.0 ((f.2 l).0 ∙ sym first.0)))))
          (at_set s.views id by w u e))
          (λ (e : new ≡ u).
          subst (λ (z : View). (z.jobs ≡ jobs) × (past jobs z.drawn ≤ 1) × (z.leads ≡ true → (by ≡ 0) × (length (set s.views id w ++ new ∷ []) ≡ z.splits + 1))) e
          (same, omega arith, (λ (l : false ≡ true). absurd cc)))
          (at_snoc (set s.views id w) new u by there)),
    )
  where
    length_more : (vs : List View) (u : View) → length (vs ++ u ∷ []) ≡ length vs + 1
    length_more [] u = refl
    length_more (x ∷ xs) u = omega (arith, length_more xs u)

-- a job's number is not past the last
not_past : (jobs n : ℕ) → n < jobs → past jobs (n ∷ []) ≡ 0
not_past jobs n low = grind (arith, nat_tests, low)

pub past-below : (jobs : ℕ) (ys : List ℕ) (n : ℕ) → n < jobs → past jobs ys ≡ 0 → past jobs (ys ++ n ∷ []) ≡ 0
past-below jobs ys n low clean = omega (arith, past_more jobs ys n, clean, not_past jobs n low)
