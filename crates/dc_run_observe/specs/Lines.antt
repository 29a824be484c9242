-- The lines of how near a run came to the bounds of a certificate.
use Rattle.std.specs.Prelude.{ℕ, Option, Some, None, List, [], ◌∷◌, ◌++◌, length, codes, decimal, slice_index}
use Rattle.dc_cert.specs.Bounds.{CertificateRows, input_bound, output_bound}
use Rattle.dc_event.specs.ReplyText.{name_at}
use Rattle.dc_event.specs.declared.event.Event.{Event}
use Rattle.dc_observe.specs.Labels.{label_numbers}
use Rattle.dc_observe.specs.Observed.{greatest_backlog, greatest_late, greatest_wait}
use Rattle.dc_observe.specs.declared.labels.LabelNumbers.{LabelNumbers}
use Rattle.dc_run_survey.specs.Lines.{first_lines}
use Rattle.dc_tables.specs.TableRows.{TableRows, label_row}

-- ---- a line

-- a number behind a word, as ` sent 12`
abbrev pub count_text : List ℕ → ℕ → List ℕ
count_text word n = word ++ decimal n

-- a number; `-` where there is none
abbrev pub maybe_text : Option ℕ → List ℕ
maybe_text None = codes "-"
maybe_text (Some n) = decimal n

-- what was observed beside its bound, as ` wait 3 of 5`
abbrev pub beside_text : (word : List ℕ) → Option ℕ → (bound : ℕ) → List ℕ
beside_text word n bound = word ++ maybe_text n ++ codes " of " ++ decimal bound

-- as `input A backlog 2 of 4 wait 3 of 5`
abbrev pub input_text : (name : List ℕ) → (backlog most wait delay : ℕ) → List ℕ
input_text name backlog most wait delay = codes "input " ++ name ++ beside_text (codes " backlog ") (Some backlog) most ++ beside_text (codes " wait ") (Some wait) delay

-- as `output OUT late 0 of 2`
abbrev pub output_text : (name : List ℕ) → (late delay : ℕ) → List ℕ
output_text name late delay = codes "output " ++ name ++ beside_text (codes " late ") (Some late) delay

-- how often a label was sent, and how often as its fallback
abbrev pub sent_text : LabelNumbers → List ℕ
sent_text n = count_text (codes " sent ") n.sent ++ count_text (codes " fallback ") n.fallback

-- its age, and its least and greatest interval, beside their bounds
abbrev pub bounds_text : LabelNumbers → (age minimum maximum : ℕ) → List ℕ
bounds_text n age minimum maximum = beside_text (codes " age ") n.age age ++ beside_text (codes " least ") n.least minimum ++ beside_text (codes " greatest ") (Some n.greatest) maximum

-- as `label L sent 12 fallback 1 age 4 of 30 least 10 of 9 greatest 11 of 12`
abbrev pub label_text : (name : List ℕ) → LabelNumbers → (age minimum maximum : ℕ) → List ℕ
label_text name n age minimum maximum = codes "label " ++ name ++ sent_text n ++ bounds_text n age minimum maximum

-- ---- all lines

-- the line of an input, of an output and of a label
abbrev pub input_line : TableRows → CertificateRows → List Event → ℕ → List ℕ
input_line t c run b = input_text (name_at t.names.buses b) (greatest_backlog t b run) (input_bound c b).backlog (greatest_wait t b run) (input_bound c b).delay

abbrev pub output_line : TableRows → CertificateRows → List Event → ℕ → List ℕ
output_line t c run o = output_text (name_at t.names.outputs o) (greatest_late t o run) (output_bound c o).delay

abbrev pub label_line : TableRows → CertificateRows → List Event → ℕ → List ℕ
label_line t c run x = label_text (name_at t.names.labels x) (label_numbers t x run) (slice_index c.ages x) (label_row t x).minimum (label_row t x).maximum

-- a line for each input, one for each output and one for each label, in the order of the tables
abbrev pub input_lines : TableRows → CertificateRows → List Event → List (List ℕ)
input_lines t c run = first_lines (input_line t c run) (length t.buses)

abbrev pub output_lines : TableRows → CertificateRows → List Event → List (List ℕ)
output_lines t c run = first_lines (output_line t c run) (length t.outputs)

abbrev pub label_lines : TableRows → CertificateRows → List Event → List (List ℕ)
label_lines t c run = first_lines (label_line t c run) (length t.labels)

abbrev pub observed_lines : TableRows → CertificateRows → List Event → List (List ℕ)
observed_lines t c run = (input_lines t c run ++ output_lines t c run) ++ label_lines t c run
