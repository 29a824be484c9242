-- What a text says for tables and a certificate: the numbers of its lines, or its first fault.
use Rattle.std.specs.Prelude.{ℕ, ◌+◌, ◌-◌, ◌==◌, ◌&&◌, ◌||◌, Bool, nat_le, nat_lt, if◌then◌else◌, Option, Some, None, List, [], ◌∷◌, ◌++◌, length, slice_index, Result, Ok, Err}
use Rattle.dc_cert.specs.Bounds.{CertificateRows, input_bound, output_bound}
use Rattle.dc_device.specs.Lines.{lines_of}
use Rattle.dc_document.specs.declared.limits.TheConstants.{TEXT_LIMIT}
use Rattle.dc_event.specs.ReplyText.{name_at}
use Rattle.dc_event.specs.TraceText.{fields_of}
use Rattle.dc_observe.specs.declared.labels.LabelNumbers.{LabelNumbers}
use Rattle.dc_seen.specs.Kinds.{kind_of}
use Rattle.dc_seen.specs.Rows.{input_numbers, label_numbers, named, output_numbers}
use Rattle.dc_seen.specs.declared.fault.SeenFault.{SeenFault}
use Rattle.dc_seen.specs.declared.fault.SeenRule.{SeenRule}
use Rattle.dc_seen.specs.declared.fault.SeenRule.TheVariants.{LineNotEnded, LineTooLong, NotNext}
use Rattle.dc_seen.specs.declared.kind.Kind.{Kind}
use Rattle.dc_seen.specs.declared.kind.Kind.TheVariants.{Input, Output, Label}
use Rattle.dc_seen.specs.declared.lines.TheConstants.{LINE_LIMIT}
use Rattle.dc_seen.specs.declared.rows.InputNumbers.{InputNumbers}
use Rattle.dc_seen.specs.declared.rows.OutputNumbers.{OutputNumbers}
use Rattle.dc_tables.specs.TableRows.{TableRows, label_row}

-- ---- numbers of rows

-- numbers of inputs, of outputs and of labels, each in order
pub record SeenRows : Type 0 where
  pub inputs : List InputNumbers
  pub outputs : List OutputNumbers
  pub labels : List LabelNumbers

-- those of these inputs, outputs and labels
abbrev pub seen_all : List InputNumbers → List OutputNumbers → List LabelNumbers → SeenRows
seen_all inputs outputs labels = record { inputs = inputs; outputs = outputs; labels = labels }

-- of inputs alone, of outputs, of labels; none
abbrev pub inputs_only : List InputNumbers → SeenRows
inputs_only inputs = seen_all inputs [] []

abbrev pub outputs_only : List OutputNumbers → SeenRows
outputs_only outputs = seen_all [] outputs []

abbrev pub labels_only : List LabelNumbers → SeenRows
labels_only labels = seen_all [] [] labels

abbrev pub none_seen : SeenRows
none_seen = inputs_only []

-- those of one row
abbrev pub one_input : InputNumbers → SeenRows
one_input numbers = inputs_only (numbers ∷ [])

abbrev pub one_output : OutputNumbers → SeenRows
one_output numbers = outputs_only (numbers ∷ [])

abbrev pub one_label : LabelNumbers → SeenRows
one_label numbers = labels_only (numbers ∷ [])

-- some, and then others
abbrev pub joined : SeenRows → SeenRows → SeenRows
joined seen more = seen_all (seen.inputs ++ more.inputs) (seen.outputs ++ more.outputs) (seen.labels ++ more.labels)

-- ---- a line

-- how many inputs, outputs and labels there are
abbrev pub row_count : TableRows → ℕ
row_count t = length t.buses + length t.outputs + length t.labels

-- each has a line; tables without any are answered by one blank line
abbrev pub lines_wanted : TableRows → ℕ
lines_wanted t = if row_count t == 0 then 1 else row_count t

-- the row of the line of a number, among so many rows that have a line each, the first of them behind so many lines
abbrev pub row_at : (first count k : ℕ) → Option ℕ
row_at first count k = if nat_le first k && nat_lt k (first + count) then Some (k - first) else None

-- numbers, as those of rows
abbrev pub rows_said : {X : Type 0} → (X → SeenRows) → Result X SeenRule → Result SeenRows SeenRule
rows_said rows (Ok x) = Ok (rows x)
rows_said rows (Err rule) = Err rule

-- what the fields of an input say, where this input is next in order, if one is
abbrev pub input_said : TableRows → CertificateRows → List (List ℕ) → Option ℕ → Result SeenRows SeenRule
input_said t c fields None = Err NotNext
input_said t c fields (Some b) = rows_said one_input (named (name_at t.names.buses b) fields (input_numbers (input_bound c b).backlog (input_bound c b).delay fields))

-- those of an output
abbrev pub output_said : TableRows → CertificateRows → List (List ℕ) → Option ℕ → Result SeenRows SeenRule
output_said t c fields None = Err NotNext
output_said t c fields (Some o) = rows_said one_output (named (name_at t.names.outputs o) fields (output_numbers (output_bound c o).delay fields))

-- those of a label
abbrev pub label_said : TableRows → CertificateRows → List (List ℕ) → Option ℕ → Result SeenRows SeenRule
label_said t c fields None = Err NotNext
label_said t c fields (Some x) = rows_said one_label (named (name_at t.names.labels x) fields (label_numbers (slice_index c.ages x) (label_row t x).minimum (label_row t x).maximum fields))

-- what the fields of the line of this number, from 0, say by their kind
abbrev pub fields_said : TableRows → CertificateRows → (k : ℕ) → List (List ℕ) → Result Kind SeenRule → Result SeenRows SeenRule
fields_said t c k fields (Ok Input) = input_said t c fields (row_at 0 (length t.buses) k)
fields_said t c k fields (Ok Output) = output_said t c fields (row_at (length t.buses) (length t.outputs) k)
fields_said t c k fields (Ok Label) = label_said t c fields (row_at (length t.buses + length t.outputs) (length t.labels) k)
fields_said t c k fields (Err rule) = Err rule

-- whether a line is the blank one that answers tables without a row
abbrev pub is_blank : TableRows → (k : ℕ) → List ℕ → Bool
is_blank t k line = (row_count t == 0) && (k == 0) && (length line == 0)

-- what the line of this number, from 0, says, or the first rule that it breaks
unfoldable pub line_said : TableRows → CertificateRows → (k : ℕ) → List ℕ → Result SeenRows SeenRule
line_said t c k line = if is_blank t k line then Ok none_seen else fields_said t c k (fields_of line) (kind_of (fields_of line))

-- ---- a text

-- whether a line of so many bytes passes its limit, or the text does by so many bytes of it, where so many stand before the line
abbrev pub too_long : (before line through : ℕ) → Bool
too_long before line through = nat_lt LINE_LIMIT line || nat_lt TEXT_LIMIT (before + through)

-- the rule that is broken where the text ends inside a line of so many bytes
abbrev pub unended_rule : (before line : ℕ) → SeenRule
unended_rule before line = if too_long before line line then LineTooLong else LineNotEnded

-- what is said by the end of a text, behind so many bytes and so many lines, and these bytes of a line
abbrev pub end_said : TableRows → (before k : ℕ) → List ℕ → Result SeenRows SeenRule
end_said t before k [] = if nat_lt k (lines_wanted t) then Err NotNext else Ok none_seen
end_said t before k (b ∷ bs) = Err (unended_rule before (length (b ∷ bs)))

-- what is said at the line of a number, from 0, which faults count from 1
abbrev pub at_line : (k : ℕ) → Result SeenRows SeenRule → Result SeenRows SeenFault
at_line k (Ok seen) = Ok seen
at_line k (Err rule) = Err (record { rule = rule; line = k + 1 })

-- what is said first, and then later; or the first fault
abbrev pub followed : Result SeenRows SeenFault → Result SeenRows SeenFault → Result SeenRows SeenFault
followed (Err fault) later = Err fault
followed (Ok seen) (Err fault) = Err fault
followed (Ok seen) (Ok more) = Ok (joined seen more)

-- what lines say, and what stands behind the last of them, where so many bytes and so many lines of the text stand before them
abbrev pub lines_said : TableRows → CertificateRows → (before k : ℕ) → List (List ℕ) → List ℕ → Result SeenRows SeenFault
lines_said t c before k [] rest = at_line k (end_said t before k rest)
lines_said t c before k (line ∷ lines) rest =
    if too_long before (length line) (length line + 1) then at_line k (Err LineTooLong)
    else followed (at_line k (line_said t c k line)) (lines_said t c (before + length line + 1) (k + 1) lines rest)

-- what a text says, or its first fault
unfoldable pub seen_of : TableRows → CertificateRows → List ℕ → Result SeenRows SeenFault
seen_of t c text = lines_said t c 0 0 (lines_of text).0 (lines_of text).1
