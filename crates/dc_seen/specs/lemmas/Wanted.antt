-- Which row is wanted at a line, and what the line then says.
use Rattle.std.proofs.Common.{◌≡◌, ℕ, ◌+◌, ◌-◌, ◌<◌, ◌≤◌, ◌==◌, ◌&&◌, if◌then◌else◌, List, length, Some, None, Result, Ok, Err, false, nat_le, nat_lt, refl, sym, ap, ◌∙◌, inl, inr, arith}
use Rattle.std.proofs.lemmas.Bool.{and_from, and_left, and_right, cond-false, cond-true, eq-eqb, le-leb, le-ltb, lt-leb, lt-ltb, ne_eqb}
use Rattle.std.proofs.lemmas.Bool.Decides.{eqb_tells}
use Rattle.std.specs.Prelude.{slice_index}
use Rattle.dc_cert.specs.Bounds.{CertificateRows, input_bound, output_bound}
use Rattle.dc_event.specs.ReplyText.{name_at}
use Rattle.dc_event.specs.TraceText.{fields_of}
use Rattle.dc_tables.specs.TableRows.{TableRows, label_row}
use Rattle.dc_seen.specs.Kinds.{kind_of, surplus}
use Rattle.dc_seen.specs.Rows.{as_input, as_label, as_output, input_numbers, label_numbers, named, output_numbers}
use Rattle.dc_seen.specs.Said.{fields_said, input_said, is_blank, label_said, line_said, lines_wanted, none_seen, one_input, one_label, one_output, output_said, row_at, row_count, rows_said}
use Rattle.dc_seen.specs.declared.fault.SeenRule.{SeenRule}
use Rattle.dc_seen.specs.declared.kind.Kind.{Kind}
use Rattle.dc_seen.specs.declared.kind.Kind.TheVariants.{Input, Output, Label}

-- ---- rows by the numbers of their lines

row_before : (first count k : ℕ) → k < first → row_at first count k ≡ None
row_before first count k h =
    cond-false (nat_le first k && nat_lt k (first + count)) (Some (k - first)) None (and_left (nat_le first k) (nat_lt k (first + count)) (lt-leb first k h))

row_past : (first count k : ℕ) → first + count ≤ k → row_at first count k ≡ None
row_past first count k h =
    cond-false (nat_le first k && nat_lt k (first + count)) (Some (k - first)) None (and_right (nat_le first k) (nat_lt k (first + count)) (le-ltb k (first + count) h))

row_here : (first count k n : ℕ) → n < count → k ≡ first + n → row_at first count k ≡ Some n
row_here first count k n h at =
    let low : first ≤ k = omega arith in
    let high : k < first + count = omega arith in
    let same : k - first ≡ n = omega arith in
    cond-true (nat_le first k && nat_lt k (first + count)) (Some (k - first)) None (and_from (nat_le first k) (nat_lt k (first + count)) (le-leb first k low) (lt-ltb k (first + count) high))
    ∙ ap (λ m. Some m) same

-- ---- how many lines are wanted

count_wanted : (n : ℕ) → (1 ≤ (if n == 0 then 1 else n)) × (n ≤ (if n == 0 then 1 else n))
count_wanted n = elim (eqb_tells n 0) [
  | inl (test, is) ↦ rw test (omega arith, omega arith)
  | inr (test, other) ↦ rw test (omega arith, omega arith)
]

pub some_wanted : (t : TableRows) → 1 ≤ lines_wanted t
some_wanted t = (count_wanted (row_count t)).0

pub rows_wanted : (t : TableRows) → row_count t ≤ lines_wanted t
rows_wanted t = (count_wanted (row_count t)).1

pub as_wanted : (t : TableRows) → 0 < row_count t → row_count t ≡ lines_wanted t
as_wanted t some = sym (cond-false (row_count t == 0) 1 (row_count t) (ne_eqb (row_count t) 0 (λ e. omega (arith, e, some))))

pub one_wanted : (t : TableRows) → row_count t ≡ 0 → lines_wanted t ≡ 1
one_wanted t none = cond-true (row_count t == 0) 1 (row_count t) (eq-eqb (row_count t) 0 none)

-- ---- the line of a row

not_blank_row : (t : TableRows) (k : ℕ) (line : List ℕ) → 0 < row_count t → is_blank t k line ≡ false
not_blank_row t k line some =
    and_left ((row_count t == 0) && (k == 0)) (length line == 0) (and_left (row_count t == 0) (k == 0) (ne_eqb (row_count t) 0 (λ e. omega (arith, e, some))))

not_blank_later : (t : TableRows) (k : ℕ) (line : List ℕ) → 0 < k → is_blank t k line ≡ false
not_blank_later t k line some =
    and_left ((row_count t == 0) && (k == 0)) (length line == 0) (and_right (row_count t == 0) (k == 0) (ne_eqb k 0 (λ e. omega (arith, e, some))))

by_fields : (t : TableRows) (c : CertificateRows) (k : ℕ) (line : List ℕ) → is_blank t k line ≡ false → line_said t c k line ≡ fields_said t c k (fields_of line) (kind_of (fields_of line))
unfolding line_said
by_fields t c k line other = cond-false (is_blank t k line) (Ok none_seen) (fields_said t c k (fields_of line) (kind_of (fields_of line))) other

input_fields : (t : TableRows) (c : CertificateRows) (k b : ℕ) (fields : List (List ℕ)) (kind : Result Kind SeenRule) → b < length t.buses → k ≡ b
    → fields_said t c k fields kind ≡ rows_said one_input (as_input kind (named (name_at t.names.buses b) fields (input_numbers (input_bound c b).backlog (input_bound c b).delay fields)))
input_fields t c k b fields (Ok Input) there at = ap (input_said t c fields) (row_here 0 (length t.buses) k b there (omega arith))
input_fields t c k b fields (Ok Output) there at = ap (output_said t c fields) (row_before (length t.buses) (length t.outputs) k (omega arith))
input_fields t c k b fields (Ok Label) there at = ap (label_said t c fields) (row_before (length t.buses + length t.outputs) (length t.labels) k (omega arith))
input_fields t c k b fields (Err rule) there at = refl

pub input_line : (t : TableRows) (c : CertificateRows) (k b : ℕ) (line : List ℕ) → b < length t.buses → k ≡ b
    → line_said t c k line
    ≡ rows_said one_input (as_input (kind_of (fields_of line)) (named (name_at t.names.buses b) (fields_of line) (input_numbers (input_bound c b).backlog (input_bound c b).delay (fields_of line))))
input_line t c k b line there at =
    by_fields t c k line (not_blank_row t k line (omega arith)) ∙ input_fields t c k b (fields_of line) (kind_of (fields_of line)) there at

-- the same, with what the code holds of the row
pub input_row : (t : TableRows) (c : CertificateRows) (k b : ℕ) (line name : List ℕ) (most delay : ℕ) → b < length t.buses → k ≡ b → name ≡ name_at t.names.buses b → most ≡ (input_bound c b).backlog
    → delay ≡ (input_bound c b).delay → line_said t c k line ≡ rows_said one_input (as_input (kind_of (fields_of line)) (named name (fields_of line) (input_numbers most delay (fields_of line))))
input_row t c k b line name most delay there at named_so m d =
    input_line t c k b line there at
    ∙ (λ i. rows_said one_input (as_input (kind_of (fields_of line)) (named (sym named_so i) (fields_of line) (input_numbers (sym m i) (sym d i) (fields_of line)))))

output_fields : (t : TableRows) (c : CertificateRows) (k o : ℕ) (fields : List (List ℕ)) (kind : Result Kind SeenRule) → o < length t.outputs → k ≡ length t.buses + o
    → fields_said t c k fields kind ≡ rows_said one_output (as_output kind (named (name_at t.names.outputs o) fields (output_numbers (output_bound c o).delay fields)))
output_fields t c k o fields (Ok Input) there at = ap (input_said t c fields) (row_past 0 (length t.buses) k (omega arith))
output_fields t c k o fields (Ok Output) there at = ap (output_said t c fields) (row_here (length t.buses) (length t.outputs) k o there at)
output_fields t c k o fields (Ok Label) there at = ap (label_said t c fields) (row_before (length t.buses + length t.outputs) (length t.labels) k (omega arith))
output_fields t c k o fields (Err rule) there at = refl

pub output_line : (t : TableRows) (c : CertificateRows) (k o : ℕ) (line : List ℕ) → o < length t.outputs → k ≡ length t.buses + o
    → line_said t c k line ≡ rows_said one_output (as_output (kind_of (fields_of line)) (named (name_at t.names.outputs o) (fields_of line) (output_numbers (output_bound c o).delay (fields_of line))))
output_line t c k o line there at =
    by_fields t c k line (not_blank_row t k line (omega arith)) ∙ output_fields t c k o (fields_of line) (kind_of (fields_of line)) there at

pub output_row : (t : TableRows) (c : CertificateRows) (k o : ℕ) (line name : List ℕ) (delay : ℕ) → o < length t.outputs → k ≡ length t.buses + o → name ≡ name_at t.names.outputs o
    → delay ≡ (output_bound c o).delay → line_said t c k line ≡ rows_said one_output (as_output (kind_of (fields_of line)) (named name (fields_of line) (output_numbers delay (fields_of line))))
output_row t c k o line name delay there at named_so d =
    output_line t c k o line there at ∙ (λ i. rows_said one_output (as_output (kind_of (fields_of line)) (named (sym named_so i) (fields_of line) (output_numbers (sym d i) (fields_of line)))))

label_fields : (t : TableRows) (c : CertificateRows) (k x : ℕ) (fields : List (List ℕ)) (kind : Result Kind SeenRule) → x < length t.labels → k ≡ length t.buses + length t.outputs + x
    → fields_said t c k fields kind
    ≡ rows_said one_label (as_label kind (named (name_at t.names.labels x) fields (label_numbers (slice_index c.ages x) (label_row t x).minimum (label_row t x).maximum fields)))
label_fields t c k x fields (Ok Input) there at = ap (input_said t c fields) (row_past 0 (length t.buses) k (omega arith))
label_fields t c k x fields (Ok Output) there at = ap (output_said t c fields) (row_past (length t.buses) (length t.outputs) k (omega arith))
label_fields t c k x fields (Ok Label) there at = ap (label_said t c fields) (row_here (length t.buses + length t.outputs) (length t.labels) k x there at)
label_fields t c k x fields (Err rule) there at = refl

pub label_line : (t : TableRows) (c : CertificateRows) (k x : ℕ) (line : List ℕ) → x < length t.labels → k ≡ length t.buses + length t.outputs + x
    → line_said t c k line
    ≡ rows_said one_label (as_label (kind_of (fields_of line)) (named (name_at t.names.labels x) (fields_of line) (label_numbers (slice_index c.ages x) (label_row t x).minimum (label_row t x).maximum (fields_of line))))
label_line t c k x line there at =
    by_fields t c k line (not_blank_row t k line (omega arith)) ∙ label_fields t c k x (fields_of line) (kind_of (fields_of line)) there at

pub label_row_said : (t : TableRows) (c : CertificateRows) (k x : ℕ) (line name : List ℕ) (age minimum maximum : ℕ) → x < length t.labels → k ≡ length t.buses + length t.outputs + x
    → name ≡ name_at t.names.labels x → age ≡ slice_index c.ages x → minimum ≡ (label_row t x).minimum → maximum ≡ (label_row t x).maximum
    → line_said t c k line ≡ rows_said one_label (as_label (kind_of (fields_of line)) (named name (fields_of line) (label_numbers age minimum maximum (fields_of line))))
label_row_said t c k x line name age minimum maximum there at named_so a m g =
    label_line t c k x line there at
    ∙ (λ i. rows_said one_label (as_label (kind_of (fields_of line)) (named (sym named_so i) (fields_of line) (label_numbers (sym a i) (sym m i) (sym g i) (fields_of line)))))

-- ---- a line behind those of all rows

surplus_fields : (t : TableRows) (c : CertificateRows) (k : ℕ) (fields : List (List ℕ)) (kind : Result Kind SeenRule) → row_count t ≤ k → fields_said t c k fields kind ≡ Err (surplus kind)
surplus_fields t c k fields (Ok Input) past = ap (input_said t c fields) (row_past 0 (length t.buses) k (omega arith))
surplus_fields t c k fields (Ok Output) past = ap (output_said t c fields) (row_past (length t.buses) (length t.outputs) k (omega arith))
surplus_fields t c k fields (Ok Label) past = ap (label_said t c fields) (row_past (length t.buses + length t.outputs) (length t.labels) k (omega arith))
surplus_fields t c k fields (Err rule) past = refl

pub surplus_line : (t : TableRows) (c : CertificateRows) (k : ℕ) (line : List ℕ) → lines_wanted t ≤ k → line_said t c k line ≡ Err (surplus (kind_of (fields_of line)))
surplus_line t c k line past =
    let some = some_wanted t in
    let rows = rows_wanted t in
    by_fields t c k line (not_blank_later t k line (omega (arith, some, past))) ∙ surplus_fields t c k (fields_of line) (kind_of (fields_of line)) (omega (arith, rows, past))

-- ---- the line that answers tables without a row

pub blank_line : (t : TableRows) (c : CertificateRows) (line : List ℕ) → row_count t ≡ 0 → length line ≡ 0 → line_said t c 0 line ≡ Ok none_seen
unfolding line_said
blank_line t c line none empty =
    cond-true (is_blank t 0 line) (Ok none_seen) (fields_said t c 0 (fields_of line) (kind_of (fields_of line)))
    (and_from ((row_count t == 0) && (0 == 0)) (length line == 0) (and_from (row_count t == 0) (0 == 0) (eq-eqb (row_count t) 0 none) refl) (eq-eqb (length line) 0 empty))

other_line : (t : TableRows) (c : CertificateRows) (line : List ℕ) → row_count t ≡ 0 → (length line ≡ 0 → ⊥) → line_said t c 0 line ≡ Err (surplus (kind_of (fields_of line)))
other_line t c line none some =
    by_fields t c 0 line (and_right ((row_count t == 0) && (0 == 0)) (length line == 0) (ne_eqb (length line) 0 some))
    ∙ surplus_fields t c 0 (fields_of line) (kind_of (fields_of line)) (omega arith)

-- the same of a line of number 0
pub blank_at : (t : TableRows) (c : CertificateRows) (k : ℕ) (line : List ℕ) → k ≡ 0 → row_count t ≡ 0 → length line ≡ 0 → line_said t c k line ≡ Ok none_seen
blank_at t c k line at none empty = ap (λ n. line_said t c n line) at ∙ blank_line t c line none empty

pub other_at : (t : TableRows) (c : CertificateRows) (k : ℕ) (line : List ℕ) → k ≡ 0 → row_count t ≡ 0 → (length line ≡ 0 → ⊥) → line_said t c k line ≡ Err (surplus (kind_of (fields_of line)))
other_at t c k line at none some = ap (λ n. line_said t c n line) at ∙ other_line t c line none some
