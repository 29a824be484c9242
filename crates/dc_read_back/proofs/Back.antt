-- The whole text that is printed says the numbers that were printed.
use Rattle.std.proofs.Common.{◌≡◌, ℕ, zero, suc, ◌+◌, ◌*◌, ◌<◌, ◌≤◌, ◌^◌, List, [], ◌∷◌, ◌++◌, length, take, refl, sym, ap, ◌∙◌, None, Ok, Err, inl, inr, arith, append_assoc, append-nil, length-append, nat_lt}
use Rattle.std.specs.Prelude.{slice_index}
use Rattle.std.proofs.lemmas.Bool.{cases_eq, cond-false, le-ltb}
use Rattle.std.proofs.lemmas.List.{nil_from_length, take_all}
use Rattle.dc_cert.specs.Bounds.{CertificateRows, input_bound, output_bound}
use Rattle.dc_device.specs.Lines.{Lines, NoFeed, lines_of, spelled}
use Rattle.dc_device.specs.lemmas.LineLemmas.{lines_of_whole}
use Rattle.dc_event.specs.ReplyText.{name_at}
use Rattle.dc_observe.specs.declared.labels.LabelNumbers.{LabelNumbers}
use Rattle.dc_run_survey.specs.Lines.{first_lines, or_blank}
use Rattle.dc_tables.specs.TableRows.{AreValid, TableRows, label_row}
use Rattle.dc_seen.specs.Rows.{seen_input, seen_label, seen_output}
use Rattle.dc_seen.specs.Said.{SeenRows, at_line, followed, inputs_only, joined, labels_only, lines_said, lines_wanted, none_seen, outputs_only, row_count, seen_all, seen_of}
use Rattle.dc_seen.specs.declared.rows.InputNumbers.{InputNumbers}
use Rattle.dc_seen.specs.declared.rows.OutputNumbers.{OutputNumbers}
use Rattle.dc_seen.specs.declared.fault.SeenRule.TheVariants.{NotNext}
use Rattle.dc_seen.specs.lemmas.Joining.{all_said}
use Rattle.dc_seen.specs.lemmas.Standing.{first_line}
use Rattle.dc_seen.specs.lemmas.Wanted.{as_wanted, blank_line, one_wanted}
use Rattle.dc_read_back.specs.Printed.{AreBounds, AreNumbers, AreSpelled, input_at, input_printed, label_at, label_printed, output_at, output_printed, printed, printed_lines}
use Rattle.dc_read_back.proofs.Printing.{input_good, label_good, output_good}
use Rattle.dc_read_back.proofs.Saying.{input_says, label_says, output_says}
use Rattle.dc_read_back.proofs.Telling.{Told, told}

-- ---- lines without a line feed are the lines of their text

abbrev pub NoFeeds : List (List ℕ) → Type 0
NoFeeds [] = Unit {0}
NoFeeds (l ∷ ls) = NoFeed l × NoFeeds ls

feeds_append : (xs ys : List (List ℕ)) → NoFeeds xs → NoFeeds ys → NoFeeds (xs ++ ys)
feeds_append [] ys p q = q
feeds_append (x ∷ xs) ys p q = (p.0, feeds_append xs ys p.1 q)

first_feeds : (line : ℕ → List ℕ) (n : ℕ) → ((k : ℕ) → k < n → NoFeed (line k)) → NoFeeds (first_lines line n)
unfolding first_lines
first_feeds line zero each = tt
first_feeds line (suc n) each = feeds_append (first_lines line n) (line n ∷ []) (first_feeds line n (λ k h. each k (omega arith))) (each n (omega arith), tt)

lines_spelled : (ls : List (List ℕ)) → NoFeeds ls → lines_of (spelled ls) ≡ (ls, [])
lines_spelled [] p = refl
lines_spelled (l ∷ ls) p = lines_of_whole l (spelled ls) p.0 ∙ ap (λ (r : Lines). (l ∷ r.0, r.1)) (lines_spelled ls p.1)

first_count : (line : ℕ → List ℕ) (n : ℕ) → length (first_lines line n) ≡ n
unfolding first_lines
first_count line zero = refl
first_count line (suc n) = omega (arith, length-append (first_lines line n) (line n ∷ []), first_count line n)

pub blank_not : (ls : List (List ℕ)) → 0 < length ls → or_blank ls ≡ ls
blank_not [] some = absurd (omega arith)
blank_not (l ∷ ls) some = refl

-- how many lines are printed
pub count_printed : (t : TableRows) (c : CertificateRows) (s : SeenRows) → length (printed_lines t c s) ≡ row_count t
count_printed t c s =
    omega (
      arith,
      length-append (first_lines (input_printed t c s) (length t.buses) ++ first_lines (output_printed t c s) (length t.outputs)) (first_lines (label_printed t c s) (length t.labels)),
      length-append (first_lines (input_printed t c s) (length t.buses)) (first_lines (output_printed t c s) (length t.outputs)),
      first_count (input_printed t c s) (length t.buses),
      first_count (output_printed t c s) (length t.outputs),
      first_count (label_printed t c s) (length t.labels),
    )

-- ---- what the lines of each kind say

pub input_join : (xs ys : List InputNumbers) → joined (inputs_only xs) (inputs_only ys) ≡ inputs_only (xs ++ ys)
input_join xs ys = refl

pub output_join : (xs ys : List OutputNumbers) → joined (outputs_only xs) (outputs_only ys) ≡ outputs_only (xs ++ ys)
output_join xs ys = refl

pub label_join : (xs ys : List LabelNumbers) → joined (labels_only xs) (labels_only ys) ≡ labels_only (xs ++ ys)
label_join xs ys = refl

module _ (t : TableRows) (c : CertificateRows) (s : SeenRows) (valid : AreValid t) (bounds : AreBounds t c) (numbers : AreNumbers t s)
    (buses : AreSpelled t.names.buses (length t.buses)) (outputs : AreSpelled t.names.outputs (length t.outputs)) (labels : AreSpelled t.names.labels (length t.labels)) where
  input_fine : (b : ℕ) → b < length t.buses → NoFeed (input_printed t c s b) × (length (input_printed t c s b) ≤ 256)
  input_fine b h =
      let n = numbers.inputs_small b h in
      input_good (name_at t.names.buses b) (input_at s b).backlog (input_bound c b).backlog (input_at s b).wait (input_bound c b).delay (buses b h) n.0 (bounds.backlogs b h) n.1 (bounds.waits b h)

  output_fine : (o : ℕ) → o < length t.outputs → NoFeed (output_printed t c s o) × (length (output_printed t c s o) ≤ 256)
  output_fine o h = output_good (name_at t.names.outputs o) (output_at s o).late (output_bound c o).delay (outputs o h) (numbers.outputs_small o h) (bounds.delays o h)

  small_maximum : (x : ℕ) → x < length t.labels → (label_row t x).maximum < 2 ^ 64
  small_maximum x h = omega (arith, valid.intervals_small x h)

  small_minimum : (x : ℕ) → x < length t.labels → (label_row t x).minimum < 2 ^ 64
  small_minimum x h = omega (arith, valid.intervals x h, valid.intervals_small x h)

  label_fine : (x : ℕ) → x < length t.labels → NoFeed (label_printed t c s x) × (length (label_printed t c s x) ≤ 256)
  label_fine x h =
      label_good (name_at t.names.labels x) (label_at s x) (slice_index c.ages x) (label_row t x).minimum (label_row t x).maximum (labels x h) (numbers.labels_small x h) (bounds.ages x h)
      (small_minimum x h) (small_maximum x h)

  inputs_told : (lines : List (List ℕ)) (rest : List ℕ) → Told t c inputs_only (input_printed t c s) 0 s.inputs (seen_input 0 0) (length t.buses) 0 lines rest
  inputs_told lines rest =
      told t c inputs_only (input_printed t c s) 0 s.inputs (seen_input 0 0) input_join refl (length t.buses) numbers.inputs_each (λ b h. (input_fine b h).1)
      (λ b h. input_says t c s (0 + b) b h (omega arith) (buses b h) (numbers.inputs_small b h) (bounds.backlogs b h) (bounds.waits b h)) (omega (arith, valid.few_buses)) (length t.buses) (omega arith) 0 (omega arith)
      lines rest

  outputs_told : (before : ℕ) → before ≤ 257 * length t.buses → (lines : List (List ℕ)) (rest : List ℕ)
      → Told t c outputs_only (output_printed t c s) (length t.buses) s.outputs (seen_output 0) (length t.outputs) before lines rest
  outputs_told before few lines rest =
      told t c outputs_only (output_printed t c s) (length t.buses) s.outputs (seen_output 0) output_join refl (length t.outputs) numbers.outputs_each (λ o h. (output_fine o h).1)
      (λ o h. output_says t c s (length t.buses + o) o h refl (outputs o h) (numbers.outputs_small o h) (bounds.delays o h)) (omega (arith, valid.few_buses, valid.few_outputs)) (length t.outputs) (omega arith) before few
      lines rest

  labels_told : (before : ℕ) → before ≤ 257 * (length t.buses + length t.outputs) → (lines : List (List ℕ)) (rest : List ℕ)
      → Told t c labels_only (label_printed t c s) (length t.buses + length t.outputs) s.labels (seen_label 0 0 None None 0) (length t.labels) before lines rest
  labels_told before few lines rest =
      told t c labels_only (label_printed t c s) (length t.buses + length t.outputs) s.labels (seen_label 0 0 None None 0) label_join refl (length t.labels) numbers.labels_each (λ x h. (label_fine x h).1)
      (λ x h. label_says t c s (length t.buses + length t.outputs + x) x h refl (labels x h) (numbers.labels_small x h) (bounds.ages x h) (small_minimum x h) (small_maximum x h))
      (omega (arith, valid.few_buses, valid.few_outputs, valid.few_labels)) (length t.labels) (omega arith) before few lines rest

  -- ---- all lines

  feeds_printed : NoFeeds (printed_lines t c s)
  feeds_printed =
      feeds_append (first_lines (input_printed t c s) (length t.buses) ++ first_lines (output_printed t c s) (length t.outputs)) (first_lines (label_printed t c s) (length t.labels))
      (
      feeds_append (first_lines (input_printed t c s) (length t.buses)) (first_lines (output_printed t c s) (length t.outputs)) (first_feeds (input_printed t c s) (length t.buses) (λ b h. (input_fine b h).0))
      (first_feeds (output_printed t c s) (length t.outputs) (λ o h. (output_fine o h).0))
      ) (first_feeds (label_printed t c s) (length t.labels) (λ x h. (label_fine x h).0))

  told_end : (after k : ℕ) → k ≡ row_count t → 0 < row_count t → lines_said t c after k [] [] ≡ Ok none_seen
  told_end after k is some =
      let wanted = as_wanted t some in
      ap (at_line k) (cond-false (nat_lt k (lines_wanted t)) (Err NotNext) (Ok none_seen) (le-ltb k (lines_wanted t) (omega (arith, is, wanted))))

  lines_back : 0 < row_count t → lines_said t c 0 0 (printed_lines t c s) [] ≡ Ok s
  lines_back some =
      let inputs : List (List ℕ) = first_lines (input_printed t c s) (length t.buses) in
      let outs : List (List ℕ) = first_lines (output_printed t c s) (length t.outputs) in
      let labs : List (List ℕ) = first_lines (label_printed t c s) (length t.labels) in
      let (after1, low1, front1) = inputs_told (outs ++ labs) [] in
      let first : 0 + length t.buses ≡ length t.buses = omega arith in
      let (after2, low2, front2) = outputs_told after1 (omega (arith, low1)) labs [] in
      let (after3, low3, front3) = labels_told after2 (omega (arith, low2)) [] [] in
      let all : seen_all (take (length t.buses) s.inputs) (take (length t.outputs) s.outputs) (take (length t.labels) s.labels) ≡ s = λ i. record {
        inputs = take_all (length t.buses) s.inputs (omega (arith, numbers.inputs_each)) i;
        outputs = take_all (length t.outputs) s.outputs (omega (arith, numbers.outputs_each)) i;
        labels = take_all (length t.labels) s.labels (omega (arith, numbers.labels_each)) i;
      } in
      ap (λ ls. lines_said t c 0 0 ls []) (append_assoc inputs outs labs)
      ∙ all_said (lines_said t c 0 0 (inputs ++ (outs ++ labs)) []) (lines_said t c after1 (length t.buses) (outs ++ labs) []) (lines_said t c after2 (length t.buses + length t.outputs) labs [])
      (lines_said t c after3 (length t.buses + length t.outputs + length t.labels) [] []) (take (length t.buses) s.inputs) (take (length t.outputs) s.outputs) (take (length t.labels) s.labels)
      (front1 ∙ ap (λ k. followed (Ok (inputs_only (take (length t.buses) s.inputs))) (lines_said t c after1 k (outs ++ labs) [])) first) front2
      (ap (λ ls. lines_said t c after2 (length t.buses + length t.outputs) ls []) (sym (append-nil labs)) ∙ front3) (told_end after3 (length t.buses + length t.outputs + length t.labels) refl some)
      ∙ ap (λ r. Ok r) all

  -- tables without a row
  nothing_back : row_count t ≡ 0 → seen_of t c (10 ∷ []) ≡ Ok s
  unfolding seen_of
  nothing_back none =
      let over : lines_said t c 1 1 [] [] ≡ Ok none_seen =
      ap (at_line 1) (cond-false (nat_lt 1 (lines_wanted t)) (Err NotNext) (Ok none_seen) (le-ltb 1 (lines_wanted t) (omega (arith, one_wanted t none)))) in
      let nothing : none_seen ≡ s = λ i. record {
        inputs = sym (nil_from_length s.inputs (omega (arith, numbers.inputs_each, none))) i;
        outputs = sym (nil_from_length s.outputs (omega (arith, numbers.outputs_each, none))) i;
        labels = sym (nil_from_length s.labels (omega (arith, numbers.labels_each, none))) i;
      } in
      first_line t c 0 0 [] [] [] refl
      ∙ ap (λ r. followed (at_line 0 r) (lines_said t c 1 1 [] [])) (blank_line t c [] none refl)
      ∙ ap (followed (Ok none_seen)) over
      ∙ ap (λ r. Ok r) nothing

  pub read_back : seen_of t c (printed t c s) ≡ Ok s
  unfolding seen_of
  read_back = elim (cases_eq (row_count t) 0) [
    | inl none ↦
        let blank : printed_lines t c s ≡ [] = nil_from_length (printed_lines t c s) (omega (arith, count_printed t c s, none)) in
        ap (λ ls. seen_of t c (spelled (or_blank ls))) blank ∙ nothing_back none
    | inr other ↦
        let some : 0 < row_count t = omega (arith, other) in
        ap (λ ls. seen_of t c (spelled ls)) (blank_not (printed_lines t c s) (omega (arith, count_printed t c s, some)))
        ∙ ap (λ (ls : Lines). lines_said t c 0 0 ls.0 ls.1) (lines_spelled (printed_lines t c s) feeds_printed)
        ∙ lines_back some
  ]
