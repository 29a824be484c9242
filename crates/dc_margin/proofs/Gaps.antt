-- Gaps of a label stay small.
use Rattle.std.proofs.Common.{ℕ, suc, ◌+◌, ◌-◌, ◌≤◌, ◌<◌, Bool, true, false, List, [], ◌∷◌, length, cond, arith}
use Rattle.std.specs.Prelude.{slice_index_or}
use Rattle.dc_tables.specs.TableRows.{TableRows, AreValid, output_row, label_row}
use Rattle.dc_tables.specs.declared.rows.Entry.{Entry}
use Rattle.dc_transmit.specs.Gaps.{first_off, gaps_to, gaps, least_of, greatest_of}
use Rattle.dc_transmit.specs.Schedule.{schedule_of, least_label_gap, greatest_label_gap, off, no_entry, is_of_label}

least-most : (most : ℕ) (xs : List ℕ) → least_of most xs ≤ most
least-most most [] = omega arith
least-most most (x ∷ xs) = omega (arith, least-most most xs)

-- offsets that are small have small gaps
each-small : (passes : Entry → Bool) (d m : ℕ) (es : List Entry) → d ≤ m → ((i : ℕ) → i < length es → (slice_index_or es i no_entry).offset ≤ m) →
    (first_off off passes es d ≤ m) × (greatest_of (gaps_to off passes d es) ≤ m)
each-small passes d m [] h offsets = (h, omega arith)
each-small passes d m (e ∷ es) h offsets =
    let here : off e ≤ m = offsets 0 (omega arith) in
    let rest = each-small passes d m es h (λ i l. offsets (suc i) (omega arith)) in
    elim (passes e) as (λ b. (cond b (off e) (first_off off passes es d) ≤ m) × (greatest_of (cond b ((first_off off passes es d - off e) ∷ gaps_to off passes d es) (gaps_to off passes d es)) ≤ m)) [
      | true ↦ (here, omega (arith, rest.0, rest.1))
      | false ↦ rest
    ]

pub least-small : (t : TableRows) → AreValid t → (x : ℕ) → x < length t.labels → least_label_gap (schedule_of t (label_row t x).output) x ≤ 100000
least-small t v x there =
    omega (arith, least-most (output_row t (label_row t x).output).frame (gaps off (is_of_label x) (output_row t (label_row t x).output).frame (output_row t (label_row t x).output).entries), v.frames_short (label_row t x).output (v.labels_on_outputs x there))

pub greatest-small : (t : TableRows) → AreValid t → (x : ℕ) → x < length t.labels → greatest_label_gap (schedule_of t (label_row t x).output) x ≤ 200000
unfolding gaps
greatest-small t v x there =
    let o_there = v.labels_on_outputs x there in
    let short = v.frames_short (label_row t x).output o_there in
    let first = each-small (is_of_label x) 0 100000 (output_row t (label_row t x).output).entries (omega arith) (λ i l. omega (arith, v.entries_in_frame (label_row t x).output i o_there l, short)) in
    (each-small (is_of_label x) ((output_row t (label_row t x).output).frame + first_off off (is_of_label x) (output_row t (label_row t x).output).entries 0) 200000 (output_row t (label_row t x).output).entries
    (omega (arith, first.0, short)) (λ i l. omega (arith, v.entries_in_frame (label_row t x).output i o_there l, short))).1
