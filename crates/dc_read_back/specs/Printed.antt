-- The lines that `observe` prints of numbers, and that they say these numbers.
use Rattle.std.specs.Prelude.{◌≡◌, ℕ, ◌^◌, ◌<◌, IfSome, List, ◌++◌, length, slice_index, slice_index_or, None, Ok}
use Rattle.dc_cert.specs.Bounds.{CertificateRows, input_bound, output_bound}
use Rattle.dc_device.specs.Lines.{spelled}
use Rattle.dc_document.specs.Names.{IsSpelled}
use Rattle.dc_event.specs.ReplyText.{name_at}
use Rattle.dc_observe.specs.declared.labels.LabelNumbers.{LabelNumbers}
use Rattle.dc_run_observe.specs.Lines.{input_text, label_text, output_text}
use Rattle.dc_run_survey.specs.Lines.{first_lines, or_blank}
use Rattle.dc_seen.specs.Rows.{seen_input, seen_label, seen_output}
use Rattle.dc_seen.specs.Said.{SeenRows, seen_of}
use Rattle.dc_seen.specs.declared.rows.InputNumbers.{InputNumbers}
use Rattle.dc_seen.specs.declared.rows.OutputNumbers.{OutputNumbers}
use Rattle.dc_tables.specs.TableRows.{TableRows, label_row}

-- ---- the lines

-- the numbers of an input, of an output, of a label
abbrev pub input_at : SeenRows → ℕ → InputNumbers
input_at s b = slice_index_or s.inputs b (seen_input 0 0)

abbrev pub output_at : SeenRows → ℕ → OutputNumbers
output_at s o = slice_index_or s.outputs o (seen_output 0)

abbrev pub label_at : SeenRows → ℕ → LabelNumbers
label_at s x = slice_index_or s.labels x (seen_label 0 0 None None 0)

-- the line of an input, of an output, of a label
abbrev pub input_printed : TableRows → CertificateRows → SeenRows → ℕ → List ℕ
input_printed t c s b = input_text (name_at t.names.buses b) (input_at s b).backlog (input_bound c b).backlog (input_at s b).wait (input_bound c b).delay

abbrev pub output_printed : TableRows → CertificateRows → SeenRows → ℕ → List ℕ
output_printed t c s o = output_text (name_at t.names.outputs o) (output_at s o).late (output_bound c o).delay

abbrev pub label_printed : TableRows → CertificateRows → SeenRows → ℕ → List ℕ
label_printed t c s x = label_text (name_at t.names.labels x) (label_at s x) (slice_index c.ages x) (label_row t x).minimum (label_row t x).maximum

-- those of all rows
abbrev pub printed_lines : TableRows → CertificateRows → SeenRows → List (List ℕ)
printed_lines t c s =
    (first_lines (input_printed t c s) (length t.buses) ++ first_lines (output_printed t c s) (length t.outputs)) ++ first_lines (label_printed t c s) (length t.labels)

-- the text that is written
abbrev pub printed : TableRows → CertificateRows → SeenRows → List ℕ
printed t c s = spelled (or_blank (printed_lines t c s))

-- ---- numbers that can be printed

abbrev pub IsSmall : ℕ → Type 0
IsSmall n = n < 2 ^ 64

abbrev pub InputIsSmall : InputNumbers → Type 0
InputIsSmall n = IsSmall n.backlog × IsSmall n.wait

abbrev pub OutputIsSmall : OutputNumbers → Type 0
OutputIsSmall n = IsSmall n.late

pub record LabelIsSmall (n : LabelNumbers) : Type 0 where
  pub sent : IsSmall n.sent
  pub fallback : IsSmall n.fallback
  pub age : IfSome n.age IsSmall
  pub least : IfSome n.least IsSmall
  pub greatest : IsSmall n.greatest

-- numbers below 2^64 of each row of the tables
pub record AreNumbers (t : TableRows) (s : SeenRows) : Type 0 where
  pub inputs_each : length s.inputs ≡ length t.buses
  pub outputs_each : length s.outputs ≡ length t.outputs
  pub labels_each : length s.labels ≡ length t.labels
  pub inputs_small : (b : ℕ) → b < length t.buses → InputIsSmall (input_at s b)
  pub outputs_small : (o : ℕ) → o < length t.outputs → OutputIsSmall (output_at s o)
  pub labels_small : (x : ℕ) → x < length t.labels → LabelIsSmall (label_at s x)

-- so of a certificate's
pub record AreBounds (t : TableRows) (c : CertificateRows) : Type 0 where
  pub backlogs : (b : ℕ) → b < length t.buses → IsSmall (input_bound c b).backlog
  pub waits : (b : ℕ) → b < length t.buses → IsSmall (input_bound c b).delay
  pub delays : (o : ℕ) → o < length t.outputs → IsSmall (output_bound c o).delay
  pub ages : (x : ℕ) → x < length t.labels → IsSmall (slice_index c.ages x)

-- the first names of a kind are spelled as names
abbrev pub AreSpelled : List (List ℕ) → ℕ → Type 0
AreSpelled names count = (n : ℕ) → n < count → IsSpelled (name_at names n)

-- ---- the laws

-- what is printed of any numbers below 2^64 says these numbers
abbrev pub ReadsBack : TableRows → Type 0
ReadsBack t = (c : CertificateRows) (s : SeenRows) → AreBounds t c → AreNumbers t s → seen_of t c (printed t c s) ≡ Ok s

-- a text that says numbers is what is printed of them
abbrev pub SaysThePrinted : Type 0
SaysThePrinted = (t : TableRows) (c : CertificateRows) (s : SeenRows) (text : List ℕ) → seen_of t c text ≡ Ok s → text ≡ printed t c s
