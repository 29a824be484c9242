-- The numbers of rows, and the certificate that they make.
use Rattle.std.proofs.Common.{◌≡◌, ℕ, ◌+◌, ◌-◌, ◌≤◌, ◌<◌, List, [], length, map, get_or, sym, ap, subst, ◌∙◌, arith, inl, inr}
use Rattle.std.proofs.lemmas.Bool.{cases_lt}
use Rattle.std.specs.Prelude.{slice_index}
use Rattle.std.proofs.lemmas.List.{get_or-map, get_or_default, length-map, same_lists}
use Rattle.dc_busy.specs.Least.{IsLeast}
use Rattle.dc_busy.specs.declared.limits.TheConstants.{LONGEST_WINDOW}
use Rattle.dc_cert.specs.Bounds.{InputBound, CertificateRows, input_bound, output_bound, input_numbers, output_numbers, numbers_of}
use Rattle.dc_cert.specs.NamedRows.{NamedInput, NamedOutput, NamedLabel, NamedRows, named_input}
use Rattle.dc_cert.specs.declared.certificate.InputRow.{InputRow}
use Rattle.dc_check.specs.Accepts.{AcceptsLabel, IsNamed, AreNamed, Accepts, source_delay}
use Rattle.dc_find.proofs.Lists.{AreRows}
use Rattle.dc_find.proofs.Jobs.{input-clear, output-clear}
use Rattle.dc_find.specs.Least.{IsLeastAccepted}
use Rattle.dc_find.specs.Rows.{EachAt, IsLeastInput, IsLeastOutput, IsInputRow, IsOutputRow, AreInputRows, AreOutputRows, AreLabelRows, IsOldEnough, inputs_alone}
use Rattle.dc_find.specs.Ways.{AcceptsQueues, IsClearBelow}
use Rattle.dc_document.specs.Names.{text_of}
use Rattle.dc_tables.specs.Named.{HaveNames}
use Rattle.dc_tables.specs.TableRows.{TableRows, label_row}

abbrev pub no_input : NamedInput
no_input = record { bus = []; window = 0; backlog = 0; delay = 0 }

abbrev pub no_output : NamedOutput
no_output = record { output = []; window = 0; delay = 0 }

abbrev no_label : NamedLabel
no_label = record { label = []; age = 0 }

-- ---- nothing stands in the way of rows that are accepted

pub inputs-clear : (t : TableRows) (n : ℕ) (inputs : List NamedInput) → n ≤ length t.buses → AreRows (IsInputRow t) n inputs → IsClearBelow t n
inputs-clear t n inputs few rows job below =
    input-clear t job (omega arith) _ (rows.each job no_input (omega (arith, rows.count))).least.accepted

pub outputs-clear : (t : TableRows) (n : ℕ) (outputs : List NamedOutput) → n ≤ length t.outputs → IsClearBelow t (length t.buses) → AreRows (IsOutputRow t) n outputs → IsClearBelow t (length t.buses + n)
outputs-clear t n outputs few clear rows job below other at =
    elim (cases_lt job (length t.buses)) [
      | inl l ↦ clear job l other at
      | inr g ↦
          let o : ℕ = job - length t.buses in
          output-clear t (job - length t.buses) (omega arith) _ (rows.each (job - length t.buses) no_output (omega (arith, rows.count))).least.accepted other (at ∙ omega arith)
    ]

-- ---- the numbers of claims

module _ (t : TableRows) (claims : NamedRows) where
  pub input-row : AreInputRows t claims.inputs → (b : ℕ) → b < length t.buses → IsLeastInput t b (input_bound (numbers_of claims) b)
  input-row rows b there =
      let inside : b < length claims.inputs = omega (arith, rows.count) in
      subst (IsLeastInput t b) (sym (get_or-map input_numbers claims.inputs b no_input (record { window = 0; backlog = 0; delay = 0 }) inside)) (rows.each b no_input inside).least

  pub output-row : AreOutputRows t claims.outputs → (o : ℕ) → o < length t.outputs → IsLeastOutput t o (output_bound (numbers_of claims) o)
  output-row rows o there =
      let inside : o < length claims.outputs = omega (arith, rows.count) in
      subst (IsLeastOutput t o) (sym (get_or-map output_numbers claims.outputs o no_output (record { window = 0; delay = 0 }) inside)) (rows.each o no_output inside).least

  pub label-row : AreLabelRows t claims.inputs claims.labels → (x : ℕ) → x < length t.labels → IsLeast (IsOldEnough t x (numbers_of claims)) (slice_index (numbers_of claims).ages x)
  label-row rows x there =
      let inside : x < length claims.labels = omega (arith, rows.count) in
      subst (IsLeast (IsOldEnough t x (numbers_of claims))) (sym (get_or-map (λ (l : NamedLabel). l.age) claims.labels x no_label 0 inside)) (rows.each x no_label inside).least

  pub queues-accepted : AreInputRows t claims.inputs → AreOutputRows t claims.outputs → AcceptsQueues t (numbers_of claims)
  queues-accepted inputs outputs = record { inputs = λ b l. (input-row inputs b l).accepted; outputs = λ o l. (output-row outputs o l).accepted }

-- ---- an age

-- what was read of a row is its delay
pub delay-read : (rows : List InputRow) (b : ℕ) (row : InputRow) → b < length rows → row ≡ get_or rows b row → (input_bound (inputs_alone (map named_input rows)) b).delay ≡ row.delay
delay-read rows b row there is =
    ap (λ (r : InputBound). r.delay) (get_or-map input_numbers (map named_input rows) b (named_input row) (record { window = 0; backlog = 0; delay = 0 }) (omega (arith, length-map rows named_input))
    ∙ ap input_numbers (get_or-map named_input rows b row (named_input row) there)
    ∙ ap (λ (r : InputRow). input_numbers (named_input r)) (sym is))

-- it is at most the one that stands for none, where each is
pub delay-short : (rows : List InputRow) (b : ℕ) (row : InputRow) → b < length rows → row ≡ get_or rows b row → EachAt (λ k claim. claim.delay ≤ LONGEST_WINDOW + 1) (map named_input rows) → row.delay ≤ LONGEST_WINDOW + 1
delay-short rows b row there is short =
    subst (λ n. n ≤ LONGEST_WINDOW + 1) (ap (λ (r : NamedInput). r.delay) (get_or-map named_input rows b row (named_input row) there) ∙ ap (λ (r : InputRow). r.delay) (sym is))
    (short b (named_input row) (omega (arith, length-map rows named_input, there)))

-- the stale limit and the greatest delay of a source are the least age
pub age-least : (t : TableRows) (x : ℕ) (c : CertificateRows) (sources : List ℕ) → sources ≡ (label_row t x).sources → 1 ≤ length (label_row t x).sources →
    (i delay stale : ℕ) → length sources ≤ i → i ≤ length sources →
    ((k : ℕ) → k < i → source_delay t c (slice_index sources k) ≤ delay) → ((n : ℕ) → ((k : ℕ) → k < i → source_delay t c (slice_index sources k) ≤ n) → delay ≤ n) →
    stale ≡ (label_row t x).stale → IsLeast (IsOldEnough t x c) (stale + delay)
age-least t x c sources same some i delay stale low high covers least is = (
  (λ k d there.
      let at : source_delay t c (get_or (label_row t x).sources k d) ≡ source_delay t c (slice_index sources k) =
      ap (source_delay t c) (get_or_default (label_row t x).sources k d 0 there ∙ ap (λ (l : List ℕ). get_or l k 0) (sym same)) in
      omega (arith, covers k (omega (arith, ap length same)), at, is)),
  (λ m enough.
      let each : (k : ℕ) → k < i → source_delay t c (slice_index sources k) ≤ m - stale = λ k l.
      (let at : source_delay t c (slice_index sources k) ≡ source_delay t c (get_or (label_row t x).sources k 0) = ap (λ (l : List ℕ). source_delay t c (get_or l k 0)) same in
      omega (arith, enough k 0 (omega (arith, ap length same)), at, is)) in
      omega (arith, least (m - stale) each, enough 0 0 (omega arith), is)),
)

-- ---- the certificate

-- rows that are named by their keys
named : (t : TableRows) (names keys : List (List ℕ)) (count : ℕ) → length names ≡ count → length keys ≡ count → ((k : ℕ) → k < count → (d : List ℕ) → get_or names k d ≡ text_of (get_or keys k [])) → IsNamed count names keys
named t names keys count sized has_names each = record {
  sized = sized;
  same = same_lists names (map text_of keys) (sized ∙ sym has_names ∙ sym (length-map keys text_of)) (λ k d l.
      each k (omega (arith, sized)) d ∙ sym (get_or-map text_of keys k [] d (omega (arith, sized, has_names))));
}

-- the tables' names, where each row has its own
pub are-named : (t : TableRows) (claims : NamedRows) → HaveNames t →
    length claims.inputs ≡ length t.buses → EachAt (λ b claim. claim.bus ≡ text_of (get_or t.names.buses b [])) claims.inputs →
    length claims.outputs ≡ length t.outputs → EachAt (λ o claim. claim.output ≡ text_of (get_or t.names.outputs o [])) claims.outputs →
    length claims.labels ≡ length t.labels → EachAt (λ x claim. claim.label ≡ text_of (get_or t.names.labels x [])) claims.labels → AreNamed t claims
are-named t claims has_names i inputs o outputs x labels = record {
  inputs = named t (map (λ (i : NamedInput). i.bus) claims.inputs) t.names.buses (length t.buses) (length-map claims.inputs (λ (i : NamedInput). i.bus) ∙ i) has_names.buses
      (λ k l d. get_or-map (λ (i : NamedInput). i.bus) claims.inputs k no_input d (omega (arith, i)) ∙ inputs k no_input (omega (arith, i)));
  outputs = named t (map (λ (o : NamedOutput). o.output) claims.outputs) t.names.outputs (length t.outputs) (length-map claims.outputs (λ (o : NamedOutput). o.output) ∙ o) has_names.outputs
      (λ k l d. get_or-map (λ (o : NamedOutput). o.output) claims.outputs k no_output d (omega (arith, o)) ∙ outputs k no_output (omega (arith, o)));
  labels = named t (map (λ (x : NamedLabel). x.label) claims.labels) t.names.labels (length t.labels) (length-map claims.labels (λ (x : NamedLabel). x.label) ∙ x) has_names.labels
      (λ k l d. get_or-map (λ (x : NamedLabel). x.label) claims.labels k no_label d (omega (arith, x)) ∙ labels k no_label (omega (arith, x)));
}

pub least-accepted : (t : TableRows) (claims : NamedRows) → HaveNames t → AreInputRows t claims.inputs → AreOutputRows t claims.outputs → AreLabelRows t claims.inputs claims.labels →
    ((x : ℕ) → x < length t.labels → AcceptsLabel t x (numbers_of claims)) →
    ((other : NamedRows) → Accepts t other → (x : ℕ) → x < length t.labels → IsOldEnough t x (numbers_of claims) (slice_index (numbers_of other).ages x)) →
    IsLeastAccepted t claims
least-accepted t claims has_names inputs outputs labels kept older = record {
  accepted = record {
    named = are-named t claims has_names inputs.count (λ k d l. (inputs.each k d l).named) outputs.count (λ k d l. (outputs.each k d l).named) labels.count (λ k d l. (labels.each k d l).named);
    numbers = record {
      inputs = λ b l. (input-row t claims inputs b l).accepted;
      outputs = λ o l. (output-row t claims outputs o l).accepted;
      labels = kept;
    };
  };
  least = λ other ok. record {
    inputs = λ b l. (input-row t claims inputs b l).least (input_bound (numbers_of other) b) (ok.numbers.inputs b l);
    outputs = λ o l. (output-row t claims outputs o l).least (output_bound (numbers_of other) o) (ok.numbers.outputs o l);
    ages = λ x l. (label-row t claims labels x l).1 _ (older other ok x l);
  };
}
