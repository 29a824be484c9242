-- The outputs of tables that break no rule, and their frames.
use Rattle.std.proofs.Common.{◌≡◌, ℕ, zero, suc, ◌+◌, ◌*◌, ◌<◌, ◌≤◌, inl, inr, Bool, true, false, cond, ◌&&◌, ◌||◌, ◌==◌, nat_lt, nat_le, Option, Some, None, is_none, List, [], ◌∷◌, ◌++◌, length, get_or, map, refl, sym, ap, ◌∙◌, arith, subst}
use Rattle.std.specs.List.{All, count_by, position, list_any, slice_get}
use Rattle.std.specs.Prelude.{option_map, option_and_then}
use Rattle.std.proofs.lemmas.List.{length-map, get_or-map}
use Rattle.std.proofs.lemmas.List.Sorted.{All-permutation, Contains-permutation, sum_by-IsPermutation, length_permutation}
use Rattle.std.proofs.lemmas.Bool.{cases_lt}
use Rattle.dc_document.specs.Document.{Document, label_owners, IsInOrder}
use Rattle.dc_document.specs.Ticks.{output_gap}
use Rattle.dc_rules.specs.Rules.{outside, output_out, counts, doubled, doubled_from, same_offset, offset_of, entries_from, entry_owners, frame_of}
use Rattle.dc_build.specs.RowsOf.{entry_of, own_entries, IsOutputRow, AreRows}
use Rattle.dc_tables.specs.TableRows.{TableRows, output_row, label_row, entry_row}
use Rattle.dc_document.specs.declared.parts.Speed.TheVariants.{High}
use Rattle.dc_tables.specs.declared.rows.Entry.{Entry}
use Rattle.dc_rules.specs.declared.keys.PlacedEntry.{PlacedEntry}
use Rattle.dc_rules.specs.declared.keys.PlacedOffset.{PlacedOffset}
use Rattle.dc_document.specs.declared.parts.OutputPart.{OutputPart}
use Rattle.dc_document.specs.declared.parts.LabelPart.{LabelPart}
use Rattle.dc_rules.specs.lemmas.Picks.{each_fails, any_fails, not_outside, or_none, not_below, not_le, first_passes, and_some}
use Rattle.dc_rules.specs.lemmas.Owners.{bool_cases, counted_there}
use Rattle.dc_rules.specs.lemmas.Apart.{apart, one_at_most, two_at_least, counts_length, counts_at}
use Rattle.dc_build.proofs.Intervals.{gap_some}
use Rattle.dc_build.proofs.ValidBuses.{tick_in}
use Rattle.dc_build.proofs.ValidLabels.{label_count, output_of, each_label_at}
use Rattle.dc_build.proofs.ValidEntries.{is_same, same_is, both_true, all_entries, entry_there, own_all, own_length, own_count, own_contains}
use Rattle.dc_rules.specs.Obeys.{ShapeObeys, TotalsObey, SchedulesObey}

frame_at : (xs : List OutputPart) (o : ℕ) (e : OutputPart) → o < length xs → frame_of xs o ≡ (get_or xs o e).frame
frame_at [] o e h = absurd (omega arith)
frame_at (x ∷ xs) zero e h = refl
frame_at (x ∷ xs) (suc o) e h = frame_at xs o e (omega arith)

some_is : (i j : ℕ) → Some i ≡ Some j → i ≡ j
some_is i j h = cc h

true_false : true ≡ false → ⊥
true_false h = cc h

doubled_there : {A : Type 0} (R : A → A → Bool) (past : List A) (i : ℕ) (xs : List A) (j : ℕ) → doubled_from R past i xs ≡ Some j → (i ≤ j) × (j < i + length xs)
doubled_there R past i [] j h = absurd (cc h)
doubled_there R past i (x ∷ xs) j h =
    elim (bool_cases (list_any (R x) past)) [
      | inl w ↦ let e : i ≡ j = some_is i j (rw w at h) in (omega (arith, e), omega (arith, e))
      | inr w ↦ let r = doubled_there R (past ++ (x ∷ [])) (suc i) xs j (rw w at h) in (omega (arith, r.0), omega (arith, r.1))
    ]

got_there : {A : Type 0} (xs : List A) (i : ℕ) → i < length xs → slice_get xs i ≡ None → ⊥
got_there [] i l h = omega arith
got_there (x ∷ xs) zero l h = cc h
got_there (x ∷ xs) (suc i) l h = got_there xs i (omega arith) h

map_none : (r : Option PlacedEntry) → option_map (λ (e : PlacedEntry). e.label) r ≡ None → r ≡ None
map_none None h = refl
map_none (Some x) h = absurd (cc h)

none_doubled : (all : List PlacedEntry) (r : Option ℕ) → ((j : ℕ) → r ≡ Some j → j < length all) → option_and_then (slice_get all) r ≡ None → r ≡ None
none_doubled all None h e = refl
none_doubled all (Some j) h e = absurd (got_there all j (h j refl) e)

same_default : {A : Type 0} (xs : List A) (i : ℕ) (d e : A) → i < length xs → get_or xs i d ≡ get_or xs i e
same_default [] i d e h = absurd (omega arith)
same_default (x ∷ xs) zero d e h = refl
same_default (x ∷ xs) (suc i) d e h = same_default xs i d e (omega arith)

pick : (r : Option ℕ) → is_none r ≡ false → (j : ℕ) × (r ≡ Some j)
pick None h = absurd (cc h)
pick (Some j) h = (j, refl)

module _ (d : Document) (t : TableRows) (rows : AreRows d t) where
  abbrev pub all_of : List PlacedEntry
  all_of = entries_from 0 d.labels

  abbrev pub none_part : OutputPart
  none_part = record { name = []; speed = High; steps = 0; within = 0; frame = 0 }

  row_of : (o : ℕ) → o < length t.outputs → IsOutputRow d.tick_us all_of o (get_or d.outputs o none_part) (output_row t o)
  row_of o h = rows.outputs o none_part (omega (arith, rows.outputs_there))

  -- what holds of each of an output's entries holds of its row's
  frame_all : (o : ℕ) → o < length t.outputs → (P : Entry → Type 0) → All P (own_entries all_of o) → All P (output_row t o).entries
  frame_all o h P own = All-permutation P (own_entries all_of o) (output_row t o).entries (row_of o h).entries.same own

module _ (d : Document) (t : TableRows) (rows : AreRows d t) (shape : ShapeObeys d) where
  numbers_in : (o : ℕ) → o < length d.outputs → ((1 ≤ (get_or d.outputs o (none_part d t rows)).steps) × ((get_or d.outputs o (none_part d t rows)).steps ≤ 1000)) × (((1 ≤ (get_or d.outputs o (none_part d t rows)).within) × ((get_or d.outputs o (none_part d t rows)).within ≤ 1000)) × ((1 ≤ (get_or d.outputs o (none_part d t rows)).frame) × ((get_or d.outputs o (none_part d t rows)).frame ≤ 100000)))
  numbers_in o l =
      let r = get_or d.outputs o (none_part d t rows) in
      let a = or_none (outside 1 1000 r.steps || outside 1 1000 r.within) (outside 1 100000 r.frame) (each_fails output_out d.outputs shape.outputs o (none_part d t rows) l) in
      let b = or_none (outside 1 1000 r.steps) (outside 1 1000 r.within) a.0 in
      (not_outside 1 1000 r.steps b.0, (not_outside 1 1000 r.within b.1, not_outside 1 100000 r.frame a.1))

  inside : (o : ℕ) → o < length t.outputs → o < length d.outputs
  inside o h = omega (arith, rows.outputs_there)

  pub outputs_step : (o : ℕ) → o < length t.outputs → 1 ≤ (output_row t o).steps
  outputs_step o h = omega (arith, (row_of d t rows o h).steps, (numbers_in o (inside o h)).0.0)

  pub outputs_steps_small : (o : ℕ) → o < length t.outputs → (output_row t o).steps ≤ 1000
  outputs_steps_small o h = omega (arith, (row_of d t rows o h).steps, (numbers_in o (inside o h)).0.1)

  pub outputs_paced : (o : ℕ) → o < length t.outputs → 1 ≤ (output_row t o).within
  outputs_paced o h = omega (arith, (row_of d t rows o h).within, (numbers_in o (inside o h)).1.0.0)

  pub outputs_small : (o : ℕ) → o < length t.outputs → (output_row t o).within ≤ 1000
  outputs_small o h = omega (arith, (row_of d t rows o h).within, (numbers_in o (inside o h)).1.0.1)

  pub frames : (o : ℕ) → o < length t.outputs → 1 ≤ (output_row t o).frame
  frames o h = omega (arith, (row_of d t rows o h).frame, (numbers_in o (inside o h)).1.1.0)

  pub frames_short : (o : ℕ) → o < length t.outputs → (output_row t o).frame ≤ 100000
  frames_short o h = omega (arith, (row_of d t rows o h).frame, (numbers_in o (inside o h)).1.1.1)

  pub gaps_some : (o : ℕ) → o < length t.outputs → 1 ≤ (output_row t o).gap
  gaps_some o h =
      let some : 1 ≤ d.tick_us = omega (arith, (tick_in d t rows shape).0) in
      omega (arith, (row_of d t rows o h).gap, gap_some d.tick_us (get_or d.outputs o (none_part d t rows)).speed some)

module _ (d : Document) (t : TableRows) (rows : AreRows d t) (schedules : SchedulesObey d) where
  pub outputs_able : (o : ℕ) → o < length t.outputs → (output_row t o).steps * (output_row t o).gap ≤ (output_row t o).within
  outputs_able o h =
      let p = get_or d.outputs o (none_part d t rows) in
      let w = row_of d t rows o h in
      let able : p.steps * output_gap d.tick_us p.speed ≤ p.within = not_below p.within (p.steps * output_gap d.tick_us p.speed) (each_fails (λ q. nat_lt q.within (q.steps * output_gap d.tick_us q.speed)) d.outputs schedules.outputs o (none_part d t rows) (omega (arith, rows.outputs_there))) in
      let e : (output_row t o).steps * (output_row t o).gap ≡ p.steps * output_gap d.tick_us p.speed = ap (λ n. n * (output_row t o).gap) w.steps ∙ ap (λ n. p.steps * n) w.gap in
      omega (arith, able, e, w.within)

  -- each entry is before the end of its output's frame
  entries_early : All (λ (e : PlacedEntry). e.offset < frame_of d.outputs e.output) (all_of d t rows)
  entries_early = all_entries (λ e. e.offset < frame_of d.outputs e.output) 0 d.labels (λ k x l j v m.
      not_le (frame_of d.outputs (get_or d.labels k x).output) (get_or (get_or d.labels k x).offsets.items j v)
      (any_fails (nat_le (frame_of d.outputs (get_or d.labels k x).output)) (get_or d.labels k x).offsets.items (each_fails (λ y. list_any (nat_le (frame_of d.outputs y.output)) y.offsets.items) d.labels schedules.late k x l) j v m))

  pub entries_in_frame : (o i : ℕ) → o < length t.outputs → i < length (output_row t o).entries → (entry_row t o i).offset < (output_row t o).frame
  entries_in_frame o i h l =
      let at = frame_at d.outputs o (none_part d t rows) (omega (arith, rows.outputs_there)) in
      omega (arith, at, (row_of d t rows o h).frame, frame_all d t rows o h (λ e. e.offset < frame_of d.outputs o) (own_all (λ n e. e.offset < frame_of d.outputs n) (all_of d t rows) o entries_early) i (record { offset = 0; label = 0 }) l)

  keys_apart : doubled same_offset (map offset_of (all_of d t rows)) ≡ None
  keys_apart =
      let keys = map offset_of (all_of d t rows) in
      none_doubled (all_of d t rows) (doubled same_offset keys) (λ j e. omega (arith, doubled_there same_offset [] 0 keys j e, length-map (all_of d t rows) offset_of)) (map_none (option_and_then (slice_get (all_of d t rows)) (doubled same_offset keys)) schedules.offsets)

  none_key : PlacedOffset
  none_key = record { output = 0; offset = 0 }

  -- an output has at most one entry at an offset
  one_each : (o v : ℕ) → count_by (λ (e : PlacedEntry). (e.output == o) && (e.offset == v)) (all_of d t rows) ≤ 1
  one_each o v = one_at_most (λ (e : PlacedEntry). (e.output == o) && (e.offset == v)) (all_of d t rows) (λ a b w l m p q.
      let x = get_or (all_of d t rows) a w in
      let y = get_or (all_of d t rows) b w in
      let px = and_some (x.output == o) (x.offset == v) p in
      let py = and_some (y.output == o) (y.offset == v) q in
      let k = apart same_offset (map offset_of (all_of d t rows)) keys_apart a b (offset_of w) l (omega (arith, length-map (all_of d t rows) offset_of)) in
      let ex = get_or-map offset_of (all_of d t rows) a w (offset_of w) (omega arith) in
      let ey = get_or-map offset_of (all_of d t rows) b w (offset_of w) m in
      let P : PlacedOffset → Type 0 = λ z. same_offset z (get_or (map offset_of (all_of d t rows)) a (offset_of w)) ≡ false in
      let Q : PlacedOffset → Type 0 = λ z. same_offset (offset_of y) z ≡ false in
      let apart_now : same_offset (offset_of y) (offset_of x) ≡ false = subst Q ex (subst P ey k) in
      let same : same_offset (offset_of y) (offset_of x) ≡ true = both_true (y.output == x.output) (y.offset == x.offset) (same_is y.output x.output (is_same y.output o py.0 ∙ sym (is_same x.output o px.0))) (same_is y.offset x.offset (is_same y.offset v py.1 ∙ sym (is_same x.offset v px.1))) in
      true_false (sym same ∙ apart_now))

  pub entries_ascend : (o i j : ℕ) → o < length t.outputs → i < j → j < length (output_row t o).entries → (entry_row t o i).offset < (entry_row t o j).offset
  entries_ascend o i j h l m =
      let e : Entry = record { offset = 0; label = 0 } in
      let frame = (output_row t o).entries in
      let up = (row_of d t rows o h).entries.ascend i j e (omega arith) m in
      elim (cases_lt (get_or frame i e).offset (get_or frame j e).offset) [
        | inl less ↦ less
        | inr more ↦
            let v = (get_or frame i e).offset in
            let eq : (get_or frame j e).offset ≡ v = omega (arith, up, more) in
            let two = two_at_least (λ (w : Entry). w.offset == v) frame i j e l m (same_is v v refl) (same_is (get_or frame j e).offset v eq) in
            let kept = sum_by-IsPermutation (λ (w : Entry). cond (w.offset == v) 1 0) (own_entries (all_of d t rows) o) frame (row_of d t rows o h).entries.same in
            absurd (omega (arith, two, kept, own_count (all_of d t rows) o v, one_each o v))
      ]

-- ---- labels and entries

module _ (d : Document) (t : TableRows) (rows : AreRows d t) where
  label_inside : (x : ℕ) → x < length t.labels → x < length d.labels
  label_inside x h = omega (arith, label_count d t rows)

  -- a label's row has the label's output
  row_output : (x : ℕ) → x < length t.labels → (label_row t x).output ≡ get_or (label_owners d) x 0
  row_output x h = each_label_at d t rows (λ k r. r.output ≡ get_or (label_owners d) k 0) (λ k y l. sym (output_of d t rows k y l)) x h

  pub entries_labelled : (o i : ℕ) → o < length t.outputs → i < length (output_row t o).entries → ((entry_row t o i).label < length t.labels) × ((label_row t (entry_row t o i).label).output ≡ o)
  entries_labelled o i h l =
      let own : All (λ (e : Entry). (e.label < length d.labels) × (get_or (label_owners d) e.label 0 ≡ o)) (own_entries (all_of d t rows) o) =
      own_all (λ n e. (e.label < length d.labels) × (get_or (label_owners d) e.label 0 ≡ n)) (all_of d t rows) o
      (all_entries (λ e. (e.label < length d.labels) × (get_or (label_owners d) e.label 0 ≡ e.output)) 0 d.labels (λ k x m j v n.
      let z : 0 + k ≡ k = omega arith in
      (omega arith, ap (λ w. get_or (label_owners d) w 0) z ∙ output_of d t rows k x m))) in
      let e = frame_all d t rows o h (λ e. (e.label < length d.labels) × (get_or (label_owners d) e.label 0 ≡ o)) own i (record { offset = 0; label = 0 }) l in
      let there : (entry_row t o i).label < length t.labels = omega (arith, e.0, label_count d t rows) in
      (there, row_output (entry_row t o i).label there ∙ e.1)

  -- a label with an offset has an entry in its output's frame
  has_entry : (x : ℕ) → x < length d.labels → (y : LabelPart) → 1 ≤ length (get_or d.labels x y).offsets.items → (o : ℕ) → o < length t.outputs → (get_or d.labels x y).output ≡ o
      → (i : ℕ) × (i < length (output_row t o).entries) × ((entry_row t o i).label ≡ x)
  has_entry x l y some o h at =
      let e : PlacedEntry = record { output = (get_or d.labels x y).output; offset = get_or (get_or d.labels x y).offsets.items 0 0; label = 0 + x } in
      let z : 0 + x ≡ x = omega arith in
      let own = own_contains (all_of d t rows) o e (entry_there 0 d.labels x y l some) at in
      let r = Contains-permutation (own_entries (all_of d t rows) o) (output_row t o).entries (entry_of e) (row_of d t rows o h).entries.same own in
      (r.0, r.1, ap (λ (w : Entry). w.label) (same_default (output_row t o).entries r.0 (record { offset = 0; label = 0 }) (entry_of e) r.1 ∙ r.2) ∙ z)

module _ (d : Document) (t : TableRows) (rows : AreRows d t) (order : IsInOrder d) (shape : ShapeObeys d) where
  offsets_some : (k : ℕ) (y : LabelPart) → k < length d.labels → 1 ≤ length (get_or d.labels k y).offsets.items
  offsets_some k y l = (not_outside 1 256 (length (get_or d.labels k y).offsets.items) (each_fails (λ x. outside 1 256 (length x.offsets.items)) d.labels shape.offsets k y l)).0

  output_there : (k : ℕ) (y : LabelPart) → k < length d.labels → (get_or d.labels k y).output < length t.outputs
  output_there k y l = omega (arith, order.labels.below k (omega (arith, length-map d.labels (λ (z : LabelPart). z.output))), output_of d t rows k y l, rows.outputs_there)

  pub labels_in_frames : (x : ℕ) → x < length t.labels → (i : ℕ) × (i < length (output_row t (label_row t x).output).entries) × ((entry_row t (label_row t x).output i).label ≡ x)
  labels_in_frames x h =
      each_label_at d t rows (λ k row. (i : ℕ) × (i < length (output_row t row.output).entries) × ((entry_row t row.output i).label ≡ k))
      (λ k y l. has_entry d t rows k l y (offsets_some k y l) (get_or d.labels k y).output (output_there k y l) refl) x h

  pub entries_some : (o : ℕ) → o < length t.outputs → 1 ≤ length (output_row t o).entries
  entries_some o h =
      let l : o < length d.outputs = omega (arith, rows.outputs_there) in
      let owners = label_owners d in
      let many = (not_outside 1 256 (get_or (counts owners (length d.outputs)) o 0) (each_fails (λ n. outside 1 256 n) (counts owners (length d.outputs)) shape.labels_of o 0 (omega (arith, counts_length owners (length d.outputs))))).0 in
      let some : 1 ≤ count_by (λ w. w == o) owners = omega (arith, many, counts_at owners (length d.outputs) o l) in
      let j = pick (position (λ w. w == o) owners) (counted_there (λ w. w == o) owners some) in
      let found = first_passes (λ w. w == o) owners j.0 j.1 in
      let there : j.0 < length t.labels = omega (arith, found.0, length-map d.labels (λ (z : LabelPart). z.output), label_count d t rows) in
      let at : (label_row t j.0).output ≡ o = row_output d t rows j.0 there ∙ is_same (get_or owners j.0 0) o (found.1 0) in
      let r = labels_in_frames j.0 there in
      omega (arith, r.1, ap (λ n. length (output_row t n).entries) at)

module _ (d : Document) (t : TableRows) (rows : AreRows d t) (totals : TotalsObey d) where
  pub few_entries : (o : ℕ) → o < length t.outputs → length (output_row t o).entries ≤ 1024
  few_entries o h =
      let l : o < length d.outputs = omega (arith, rows.outputs_there) in
      let owners = entry_owners d.labels in
      let few = not_below 1024 (get_or (counts owners (length d.outputs)) o 0) (each_fails (λ n. nat_lt 1024 n) (counts owners (length d.outputs)) totals.entries o 0 (omega (arith, counts_length owners (length d.outputs)))) in
      omega (arith, few, counts_at owners (length d.outputs) o l, own_length (all_of d t rows) o, length_permutation (own_entries (all_of d t rows) o) (output_row t o).entries (row_of d t rows o h).entries.same)
