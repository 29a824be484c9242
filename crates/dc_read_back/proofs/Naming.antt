-- A line that says numbers is the one that is printed of them.
use Rattle.std.proofs.Common.{◌≡◌, ℕ, ◌+◌, ◌<◌, Option, Some, None, List, length, Result, Ok, Err, refl, sym, ap, ◌∙◌, inl, inr, decimal}
use Rattle.std.proofs.lemmas.Bool.{cases_Bool, cond-false, cond-true}
use Rattle.std.proofs.lemmas.Slice.Eq.{bytes_eq-Decides}
use Rattle.std.specs.Prelude.{slice_index}
use Rattle.dc_cert.specs.Bounds.{CertificateRows, input_bound, output_bound}
use Rattle.dc_event.specs.ReplyText.{name_at}
use Rattle.dc_event.specs.TraceText.{fields_of}
use Rattle.dc_observe.specs.declared.labels.LabelNumbers.{LabelNumbers}
use Rattle.dc_run_observe.specs.Lines.{input_text, label_text, maybe_text, output_text}
use Rattle.dc_tables.specs.TableRows.{TableRows, label_row}
use Rattle.dc_seen.specs.Kinds.{field, is_word, kind_of}
use Rattle.dc_seen.specs.Rows.{as_input, as_label, as_output, input_numbers, label_numbers, named, or_wrong, output_numbers}
use Rattle.dc_seen.specs.Said.{SeenRows, line_said, one_input, one_label, one_output, rows_said}
use Rattle.dc_seen.specs.declared.fault.SeenRule.{SeenRule}
use Rattle.dc_seen.specs.declared.fault.SeenRule.TheVariants.{NotNext}
use Rattle.dc_seen.specs.declared.kind.Kind.{Kind}
use Rattle.dc_seen.specs.declared.kind.Kind.TheVariants.{Input, Output, Label}
use Rattle.dc_seen.specs.declared.rows.InputNumbers.{InputNumbers}
use Rattle.dc_seen.specs.declared.rows.OutputNumbers.{OutputNumbers}
use Rattle.dc_seen.specs.lemmas.Wanted.{input_line, label_line, output_line}
use Rattle.dc_read_back.proofs.Fielding.{input_shape, label_shape, line_is, output_shape}
use Rattle.dc_read_back.proofs.Numbering.{InputTexts, LabelTexts, OutputTexts, input_texts, label_texts, output_texts}
use Rattle.dc_read_back.proofs.Printing.{input_fields, input_spaced, label_fields, label_spaced, output_fields, output_spaced}

rows_say : {X : Type 0} (rows : X → SeenRows) (said : Result X SeenRule) (s : SeenRows) → rows_said rows said ≡ Ok s → (x : X) × (said ≡ Ok x) × (rows x ≡ s)
rows_say rows (Ok x) s is = (let same : rows x ≡ s = cc in (x, refl, same))
rows_say rows (Err rule) s is = absurd (cc)

wrong_says : {X : Type 0} (numbers : Option X) (x : X) → or_wrong numbers ≡ Ok x → numbers ≡ Some x
wrong_says None x is = absurd (cc)
wrong_says (Some y) x is = (let same : y ≡ x = cc in ap (λ z. Some z) same)

named_says : {X : Type 0} (name : List ℕ) (fields : List (List ℕ)) (numbers : Option X) (x : X) → named name fields numbers ≡ Ok x → (field fields 1 ≡ name) × (numbers ≡ Some x)
named_says name fields numbers x is = elim (cases_Bool (is_word fields 1 name)) [
  | inl e ↦ ((bytes_eq-Decides (field fields 1) name).0 e, wrong_says numbers x (sym (cond-true (is_word fields 1 name) (or_wrong numbers) (Err NotNext) e) ∙ is))
  | inr e ↦ let none : named name fields numbers ≡ Err NotNext = cond-false (is_word fields 1 name) (or_wrong numbers) (Err NotNext) e in absurd (cc)
]

input_kind_says : {X : Type 0} (kind : Result Kind SeenRule) (said : Result X SeenRule) (x : X) → as_input kind said ≡ Ok x → (kind ≡ Ok Input) × (said ≡ Ok x)
input_kind_says (Ok Input) said x is = (refl, is)
input_kind_says (Ok Output) said x is = absurd (cc)
input_kind_says (Ok Label) said x is = absurd (cc)
input_kind_says (Err rule) said x is = absurd (cc)

output_kind_says : {X : Type 0} (kind : Result Kind SeenRule) (said : Result X SeenRule) (x : X) → as_output kind said ≡ Ok x → (kind ≡ Ok Output) × (said ≡ Ok x)
output_kind_says (Ok Input) said x is = absurd (cc)
output_kind_says (Ok Output) said x is = (refl, is)
output_kind_says (Ok Label) said x is = absurd (cc)
output_kind_says (Err rule) said x is = absurd (cc)

label_kind_says : {X : Type 0} (kind : Result Kind SeenRule) (said : Result X SeenRule) (x : X) → as_label kind said ≡ Ok x → (kind ≡ Ok Label) × (said ≡ Ok x)
label_kind_says (Ok Input) said x is = absurd (cc)
label_kind_says (Ok Output) said x is = absurd (cc)
label_kind_says (Ok Label) said x is = (refl, is)
label_kind_says (Err rule) said x is = absurd (cc)

-- ---- the line of fields with these texts

input_from : (line name : List ℕ) (x : InputNumbers) (most delay : ℕ) → kind_of (fields_of line) ≡ Ok Input → field (fields_of line) 1 ≡ name → InputTexts (fields_of line) x most delay
    → line ≡ input_text name x.backlog most x.wait delay
input_from line name x most delay kind is_name texts =
    let printed : List (List ℕ) = input_fields name (decimal x.backlog) (decimal most) (decimal x.wait) (decimal delay) in
    let whole : fields_of line ≡ printed = input_shape (fields_of line) kind ∙ (λ i. input_fields (is_name i) (texts.backlog_text i) (texts.most_text i) (texts.wait_text i) (texts.delay_text i)) in
    line_is line printed whole ∙ sym (input_spaced name x.backlog most x.wait delay)

output_from : (line name : List ℕ) (x : OutputNumbers) (delay : ℕ) → kind_of (fields_of line) ≡ Ok Output → field (fields_of line) 1 ≡ name → OutputTexts (fields_of line) x delay
    → line ≡ output_text name x.late delay
output_from line name x delay kind is_name texts =
    let printed : List (List ℕ) = output_fields name (decimal x.late) (decimal delay) in
    let whole : fields_of line ≡ printed = output_shape (fields_of line) kind ∙ (λ i. output_fields (is_name i) (texts.late_text i) (texts.delay_text i)) in
    line_is line printed whole ∙ sym (output_spaced name x.late delay)

label_from : (line name : List ℕ) (x : LabelNumbers) (age minimum maximum : ℕ) → kind_of (fields_of line) ≡ Ok Label → field (fields_of line) 1 ≡ name
    → LabelTexts (fields_of line) x age minimum maximum → line ≡ label_text name x age minimum maximum
label_from line name x age minimum maximum kind is_name texts =
    let printed : List (List ℕ) =
    label_fields name (decimal x.sent) (decimal x.fallback) (maybe_text x.age) (decimal age) (maybe_text x.least) (decimal minimum) (decimal x.greatest) (decimal maximum) in
    let whole : fields_of line ≡ printed =
    label_shape (fields_of line) kind
    ∙ (λ i. label_fields (is_name i) (texts.sent_text i) (texts.fallback_text i) (texts.oldest_text i) (texts.age_text i) (texts.least_text i) (texts.minimum_text i) (texts.greatest_text i) (texts.maximum_text i)) in
    line_is line printed whole ∙ sym (label_spaced name x age minimum maximum)

-- ---- the line of an input, of an output, of a label

pub input_only : (t : TableRows) (c : CertificateRows) (k b : ℕ) (line : List ℕ) (s : SeenRows) → b < length t.buses → k ≡ b → line_said t c k line ≡ Ok s
    → (x : InputNumbers) × (one_input x ≡ s) × (line ≡ input_text (name_at t.names.buses b) x.backlog (input_bound c b).backlog x.wait (input_bound c b).delay)
input_only t c k b line s there at is =
    let name : List ℕ = name_at t.names.buses b in
    let most : ℕ = (input_bound c b).backlog in
    let delay : ℕ = (input_bound c b).delay in
    let fields : List (List ℕ) = fields_of line in
    let (x, said, rows) = rows_say one_input (as_input (kind_of fields) (named name fields (input_numbers most delay fields))) s (sym (input_line t c k b line there at) ∙ is) in
    let kind = input_kind_says (kind_of fields) (named name fields (input_numbers most delay fields)) x said in
    let row = named_says name fields (input_numbers most delay fields) x kind.1 in
    (x, rows, input_from line name x most delay kind.0 row.0 (input_texts most delay fields x row.1))

pub output_only : (t : TableRows) (c : CertificateRows) (k o : ℕ) (line : List ℕ) (s : SeenRows) → o < length t.outputs → k ≡ length t.buses + o → line_said t c k line ≡ Ok s
    → (x : OutputNumbers) × (one_output x ≡ s) × (line ≡ output_text (name_at t.names.outputs o) x.late (output_bound c o).delay)
output_only t c k o line s there at is =
    let name : List ℕ = name_at t.names.outputs o in
    let delay : ℕ = (output_bound c o).delay in
    let fields : List (List ℕ) = fields_of line in
    let (x, said, rows) = rows_say one_output (as_output (kind_of fields) (named name fields (output_numbers delay fields))) s (sym (output_line t c k o line there at) ∙ is) in
    let kind = output_kind_says (kind_of fields) (named name fields (output_numbers delay fields)) x said in
    let row = named_says name fields (output_numbers delay fields) x kind.1 in
    (x, rows, output_from line name x delay kind.0 row.0 (output_texts delay fields x row.1))

pub label_only : (t : TableRows) (c : CertificateRows) (k y : ℕ) (line : List ℕ) (s : SeenRows) → y < length t.labels → k ≡ length t.buses + length t.outputs + y → line_said t c k line ≡ Ok s
    → (x : LabelNumbers) × (one_label x ≡ s) × (line ≡ label_text (name_at t.names.labels y) x (slice_index c.ages y) (label_row t y).minimum (label_row t y).maximum)
label_only t c k y line s there at is =
    let name : List ℕ = name_at t.names.labels y in
    let age : ℕ = slice_index c.ages y in
    let minimum : ℕ = (label_row t y).minimum in
    let maximum : ℕ = (label_row t y).maximum in
    let fields : List (List ℕ) = fields_of line in
    let (x, said, rows) = rows_say one_label (as_label (kind_of fields) (named name fields (label_numbers age minimum maximum fields))) s (sym (label_line t c k y line there at) ∙ is) in
    let kind = label_kind_says (kind_of fields) (named name fields (label_numbers age minimum maximum fields)) x said in
    let row = named_says name fields (label_numbers age minimum maximum fields) x kind.1 in
    (x, rows, label_from line name x age minimum maximum kind.0 row.0 (label_texts age minimum maximum fields x row.1))
