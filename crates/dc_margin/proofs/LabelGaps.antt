-- The conditions on the gaps of a label, by the least and the greatest of them.
use Rattle.std.proofs.Common.{◌≡◌, ℕ, ◌+◌, ◌-◌, ◌<◌, ◌≤◌, zero, suc, Bool, true, false, List, [], ◌∷◌, length, get_or, ap, ◌∙◌, cond, ◌==◌, arith}
use Rattle.std.specs.Prelude.{nat_le}
use Rattle.std.specs.List.{list_all}
use Rattle.std.proofs.lemmas.Bool.{le-leb, leb-true}
use Rattle.std.proofs.lemmas.Bool.Decides.{nat_tests}
use Rattle.std.proofs.lemmas.List.Sums.{AllPass-from_list_all, list_all-from_AllPass}
use Rattle.std.proofs.lemmas.List.{get_or_default}
use Rattle.dc_bound.specs.Frame.{IsFrame}
use Rattle.dc_check.specs.Accepts.{gaps_of}
use Rattle.dc_margin.proofs.Law.{same-test}
use Rattle.dc_tables.specs.TableRows.{TableRows, AreValid, output_row, entry_row, label_row}
use Rattle.dc_tables.specs.declared.rows.Entry.{Entry}
use Rattle.dc_transmit.specs.lemmas.GapLaws.{least_le, next_after, first_le}
use Rattle.dc_transmit.specs.Gaps.{first_off, gaps_to, gaps, least_of, greatest_of}
use Rattle.dc_transmit.specs.Schedule.{schedule_of, least_label_gap, greatest_label_gap, off, no_entry, is_of_label}

-- ---- over a list

least-each : (b most : ℕ) (xs : List ℕ) → b ≤ least_of most xs → (k : ℕ) → k < length xs → b ≤ get_or xs k 0
least-each b most [] h k l = absurd (omega arith)
least-each b most (x ∷ xs) h zero l = omega arith
least-each b most (x ∷ xs) h (suc k) l = least-each b most xs (omega arith) k (omega arith)

each-least : (b most : ℕ) (xs : List ℕ) → b ≤ most → ((k : ℕ) → k < length xs → b ≤ get_or xs k 0) → b ≤ least_of most xs
each-least b most [] s h = s
each-least b most (x ∷ xs) s h = omega (arith, h 0 (omega arith), each-least b most xs s (λ k l. h (suc k) (omega arith)))

greatest-each : (b d : ℕ) (xs : List ℕ) → greatest_of xs + d ≤ b → (k : ℕ) → k < length xs → get_or xs k 0 + d ≤ b
greatest-each b d [] h k l = absurd (omega arith)
greatest-each b d (x ∷ xs) h zero l = omega arith
greatest-each b d (x ∷ xs) h (suc k) l = greatest-each b d xs (omega arith) k (omega arith)

each-greatest : (b d : ℕ) (xs : List ℕ) → 1 ≤ length xs → ((k : ℕ) → k < length xs → get_or xs k 0 + d ≤ b) → greatest_of xs + d ≤ b
each-greatest b d [] some h = absurd (omega arith)
each-greatest b d (x ∷ []) some h = omega (arith, h 0 (omega arith))
each-greatest b d (x ∷ y ∷ ys) some h = omega (arith, h 0 (omega arith), each-greatest b d (y ∷ ys) (omega arith) (λ k l. h (suc k) (omega arith)))

-- where an entry passes there is a gap
some-gap : (passes : Entry → Bool) (d : ℕ) (es : List Entry) (k : ℕ) → k < length es → passes (get_or es k no_entry) ≡ true → 1 ≤ length (gaps_to off passes d es)
some-gap passes d [] k l h = absurd (omega arith)
some-gap passes d (e ∷ es) zero l h = rw h (omega arith)
some-gap passes d (e ∷ es) (suc k) l h =
    let rest = some-gap passes d es k (omega arith) h in
    elim (passes e) as (λ b. 1 ≤ length (cond b ((first_off off passes es d - off e) ∷ gaps_to off passes d es) (gaps_to off passes d es))) [ true ↦ omega arith | false ↦ rest ]

-- ---- of a label

frame-of : (t : TableRows) → AreValid t → (o : ℕ) → o < length t.outputs → IsFrame off no_entry (output_row t o).frame (output_row t o).entries
frame-of t v o h = record {
  some = v.entries_some o h;
  ascend = λ i j l k. v.entries_ascend o i j h l k;
  below = λ i l. v.entries_in_frame o i h l;
}

eq-test : (a b : ℕ) → a ≡ b → (a == b) ≡ true
eq-test a b h = grind (arith, nat_tests)

module _ (t : TableRows) (v : AreValid t) (x : ℕ) (there : x < length t.labels) where
  -- at least b each, so b is at most the frame
  within-frame : (b : ℕ) → ((k : ℕ) → k < length (gaps_of t x) → b ≤ get_or (gaps_of t x) k 0) → b ≤ (output_row t (label_row t x).output).frame
  unfolding gaps
  within-frame b all =
      let f = frame-of t v (label_row t x).output (v.labels_on_outputs x there) in
      let some = v.labels_in_frames x there in
      let here = eq-test (entry_row t (label_row t x).output some.0).label x some.2 in
      let low = each-least b b (gaps_of t x) (omega arith) all in
      let one = least_le off (is_of_label x) no_entry b ((output_row t (label_row t x).output).frame + first_off off (is_of_label x) (output_row t (label_row t x).output).entries 0) (output_row t (label_row t x).output).entries some.0 some.1 here in
      let next = next_after off (is_of_label x) no_entry (output_row t (label_row t x).output).frame (output_row t (label_row t x).output).entries f some.0 some.1 here in
      let front = first_le off (is_of_label x) no_entry (output_row t (label_row t x).output).entries f.ascend 0 some.0 some.1 here in
      omega (arith, low, one, next.1, front)

  gap-there : 1 ≤ length (gaps_of t x)
  unfolding gaps
  gap-there =
      let some = v.labels_in_frames x there in
      some-gap (is_of_label x) ((output_row t (label_row t x).output).frame + first_off off (is_of_label x) (output_row t (label_row t x).output).entries 0) (output_row t (label_row t x).output).entries some.0 some.1
      (eq-test (entry_row t (label_row t x).output some.0).label x some.2)

  -- each gap is at least b where the least gap is
  pub soon-test : (b : ℕ) → list_all (λ g. nat_le b g) (gaps_of t x) ≡ nat_le b (least_label_gap (schedule_of t (label_row t x).output) x)
  soon-test b =
      same-test (list_all (λ g. nat_le b g) (gaps_of t x)) (nat_le b (least_label_gap (schedule_of t (label_row t x).output) x))
      (λ all.
      let each : (k : ℕ) → k < length (gaps_of t x) → b ≤ get_or (gaps_of t x) k 0 = λ k l. leb-true _ _ (AllPass-from_list_all (λ g. nat_le b g) (gaps_of t x) all k 0 l) in
      le-leb _ _ (each-least b (output_row t (label_row t x).output).frame (gaps_of t x) (within-frame b each) each))
      (λ least. list_all-from_AllPass (λ g. nat_le b g) (gaps_of t x)
      (λ k d l. ap (nat_le b) (get_or_default (gaps_of t x) k d 0 l) ∙ le-leb _ _ (least-each b (output_row t (label_row t x).output).frame (gaps_of t x) (leb-true _ _ least) k l)))

  -- each gap and d are at most b where the greatest and d are
  pub late-test : (b d : ℕ) → list_all (λ g. nat_le (g + d) b) (gaps_of t x) ≡ nat_le (greatest_label_gap (schedule_of t (label_row t x).output) x + d) b
  late-test b d =
      same-test (list_all (λ g. nat_le (g + d) b) (gaps_of t x)) (nat_le (greatest_label_gap (schedule_of t (label_row t x).output) x + d) b)
      (λ all. le-leb _ _ (each-greatest b d (gaps_of t x) gap-there (λ k l. leb-true _ _ (AllPass-from_list_all (λ g. nat_le (g + d) b) (gaps_of t x) all k 0 l))))
      (λ most. list_all-from_AllPass (λ g. nat_le (g + d) b) (gaps_of t x)
      (λ k z l. ap (λ g. nat_le (g + d) b) (get_or_default (gaps_of t x) k z 0 l) ∙ le-leb _ _ (greatest-each b d (gaps_of t x) (leb-true _ _ most) k l)))
