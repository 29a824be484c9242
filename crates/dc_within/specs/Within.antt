-- What is observed of a run stays within the numbers beside it: the certificate's, and of a label the intervals of the tables.
use Rattle.std.specs.Prelude.{ℕ, ◌<◌, ◌≤◌, IfSome, List, length, slice_index}
use Rattle.dc_cert.specs.Bounds.{InputBound, OutputBound, CertificateRows, input_bound, output_bound, numbers_of}
use Rattle.dc_cert.specs.NamedRows.{NamedRows}
use Rattle.dc_check.specs.Accepts.{Accepts}
use Rattle.dc_event.specs.Admissible.{IsAdmissible}
use Rattle.dc_event.specs.declared.event.Event.{Event}
use Rattle.dc_observe.specs.Observed.{greatest_backlog, greatest_wait, greatest_late, oldest_copy, least_interval, greatest_interval}
use Rattle.dc_tables.specs.TableRows.{TableRows, label_row}

-- ---- one input, output, label

-- no more words waited at a time than the backlog of the bus, and none longer than its delay
pub record InputWithin (t : TableRows) (b : ℕ) (c : InputBound) (run : List Event) : Type 0 where
  pub backlog : greatest_backlog t b run ≤ c.backlog
  pub wait : greatest_wait t b run ≤ c.delay

-- no entry was later than the delay of the output
abbrev pub OutputWithin : TableRows → ℕ → OutputBound → List Event → Type 0
OutputWithin t o c run = greatest_late t o run ≤ c.delay

-- no copied word was older than the age, and the intervals between emissions kept the minimum and the maximum
pub record LabelWithin (t : TableRows) (x age : ℕ) (run : List Event) : Type 0 where
  pub aged : IfSome (oldest_copy t x run) (λ oldest. oldest ≤ age)
  pub least : IfSome (least_interval t x run) (λ least. (label_row t x).minimum ≤ least)
  pub greatest : greatest_interval t x run ≤ (label_row t x).maximum

-- ---- all of them, in every admissible run

-- of each input
abbrev pub InputsWithin : TableRows → CertificateRows → List Event → Type 0
InputsWithin t c run = (b : ℕ) → b < length t.buses → InputWithin t b (input_bound c b) run

-- of each output
abbrev pub OutputsWithin : TableRows → CertificateRows → List Event → Type 0
OutputsWithin t c run = (o : ℕ) → o < length t.outputs → OutputWithin t o (output_bound c o) run

-- of each label
abbrev pub LabelsWithin : TableRows → CertificateRows → List Event → Type 0
LabelsWithin t c run = (x : ℕ) → x < length t.labels → LabelWithin t x (slice_index c.ages x) run

-- of all that is observed
pub record ObservedWithin (t : TableRows) (c : CertificateRows) (run : List Event) : Type 0 where
  pub inputs : InputsWithin t c run
  pub outputs : OutputsWithin t c run
  pub labels : LabelsWithin t c run

-- each certificate that is accepted for the tables has this of its numbers in every admissible run of them
abbrev pub AcceptedHave : (TableRows → CertificateRows → List Event → Type 0) → TableRows → Type 0
AcceptedHave P t = (claims : NamedRows) → Accepts t claims → (run : List Event) → IsAdmissible t run → P t (numbers_of claims) run

-- no number that is observed of an admissible run passes the one beside it
abbrev pub ObservedStayWithin : TableRows → NamedRows → Type 0
ObservedStayWithin t claims = (run : List Event) → IsAdmissible t run → ObservedWithin t (numbers_of claims) run
