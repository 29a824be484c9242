-- How many entries of a frame are due by a tick, by a search.
use Rattle.std.proofs.Common.{◌≡◌, ℕ, ◌+◌, ◌*◌, ◌/◌, ◌%◌, ◌<◌, ◌≤◌, zero, suc, Bool, true, false, cond, leb, List, [], ◌∷◌, length, get_or, ap, ◌∙◌, arith, inl, inr}
use Rattle.std.specs.List.{count_by}
use Rattle.std.specs.List.Sorted.{IsPartitionedBy, IsPartitionPoint}
use Rattle.std.proofs.lemmas.Bool.{cases_lt}
use Rattle.std.proofs.lemmas.List.Sums.{sum_by-cons}
use Rattle.std.proofs.lemmas.List.Sorted.{IsPartitionedBy-leb, IsNonDecreasingBy-from_default}
use Rattle.dc_bound.specs.Frame.{due_so_far, due_of_entry, IsFrame}
use Rattle.dc_bound.specs.lemmas.Dues.{due_so_far_frames, due_so_far-frames, due_so_far_frames-is, due_in_ascends, ascending_ge}
use Rattle.dc_tables.specs.declared.rows.Entry.{Entry}
use Rattle.dc_transmit.specs.Schedule.{off, no_entry}

count-yes : (p : Entry → Bool) (e : Entry) (es : List Entry) → p e ≡ true → count_by p (e ∷ es) ≡ 1 + count_by p es
count-yes p e es h = sum_by-cons (λ x. cond (p x) 1 0) e es ∙ ap (λ b. cond b 1 0 + count_by p es) h

count-no : (p : Entry → Bool) (e : Entry) (es : List Entry) → p e ≡ false → count_by p (e ∷ es) ≡ 0 + count_by p es
count-no p e es h = sum_by-cons (λ x. cond (p x) 1 0) e es ∙ ap (λ b. cond b 1 0 + count_by p es) h

-- the place where a test turns from true to false tells how many pass it
pub count-at : (p : Entry → Bool) (es : List Entry) (i : ℕ) → i ≤ length es → ((k : ℕ) → k < i → p (get_or es k no_entry) ≡ true) → ((k : ℕ) → i ≤ k → k < length es → p (get_or es k no_entry) ≡ false) → count_by p es ≡ i
count-at p [] i l passes fails = omega arith
count-at p (e ∷ es) zero l passes fails =
    let rest = count-at p es 0 (omega arith) (λ k h. absurd (omega arith)) (λ k h j. fails (suc k) (omega arith) (omega arith)) in
    omega (arith, count-no p e es (fails 0 (omega arith) (omega arith)), rest)
count-at p (e ∷ es) (suc i) l passes fails =
    let rest = count-at p es i (omega arith) (λ k h. passes (suc k) (omega arith)) (λ k h j. fails (suc k) (omega arith) (omega arith)) in
    omega (arith, count-yes p e es (passes 0 (omega arith)), rest)

-- offsets that ascend do not fall
pub rising : (frame : ℕ) (es : List Entry) → IsFrame off no_entry frame es → (i j : ℕ) → i ≤ j → j < length es → off (get_or es i no_entry) ≤ off (get_or es j no_entry)
rising frame es f i j h l = elim (cases_lt i j) [ inl k ↦ omega (arith, f.ascend i j k l) | inr k ↦ let e : i ≡ j = omega arith in omega (arith, ap (λ n. off (get_or es n no_entry)) e) ]

-- no more entries are due by a tick than there are ticks by it
pub few_due : (frame : ℕ) (es : List Entry) → IsFrame off no_entry frame es → (tick : ℕ) → due_so_far_frames off frame es tick ≤ tick + 1
few_due frame es f tick =
    let due = due_in_ascends off no_entry frame es f in
    elim (cases_lt (tick + 1) (due_so_far_frames off frame es tick)) [
      | inl l ↦ absurd (omega (arith, (due_so_far_frames-is off no_entry frame es f (tick + 1) tick).0 l, ascending_ge (due_of_entry off no_entry frame es) due (tick + 1)))
      | inr l ↦ l
    ]

-- a search among the offsets finds how many are at most r
pub parted : (frame r : ℕ) (es : List Entry) → IsFrame off no_entry frame es → IsPartitionedBy (λ (e : Entry). leb (off e) r) es
parted frame r es f = IsPartitionedBy-leb off es r (IsNonDecreasingBy-from_default off es no_entry (rising frame es f))

pub due-found : (frame wide : ℕ) (es : List Entry) → wide ≡ frame → IsFrame off no_entry frame es → (tick i : ℕ) → i ≤ length es
    → IsPartitionPoint (λ (e : Entry). leb (off e) (tick % wide) ≡ true) (λ (e : Entry). leb (off e) (tick % wide) ≡ false) es i
    → (tick / wide * length es + i ≡ due_so_far (due_of_entry off no_entry frame es) tick) × (tick / wide * length es + i ≤ tick + 1)
due-found frame wide es same f tick i l point =
    let count = count-at (λ e. leb (off e) (tick % wide)) es i l (λ k h. point.0 k no_entry (omega arith) h) (λ k h j. point.1 k no_entry h j) in
    let q = ap (λ w. tick / w * length es) same in
    let n = ap (λ w. count_by (λ e. leb (off e) (tick % w)) es) same in
    (omega (arith, due_so_far-frames off no_entry frame es f tick, count, q, n), omega (arith, few_due frame es f tick, count, q, n))
