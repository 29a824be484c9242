-- What was read of a certificate's rows, in its numbers.
use Rattle.std.proofs.Common.{◌≡◌, ℕ, ◌<◌, length, map, get_or, sym, ap, ◌∙◌, arith}
use Rattle.std.proofs.lemmas.List.{get_or-map, length-map}
use Rattle.dc_cert.specs.Bounds.{input_numbers, output_numbers, input_bound, output_bound, certificate_rows}
use Rattle.dc_cert.specs.NamedRows.{named_input, named_output, named_label}
use Rattle.dc_cert.specs.declared.certificate.Certificate.{Certificate}
use Rattle.dc_cert.specs.declared.certificate.InputRow.{InputRow}
use Rattle.dc_cert.specs.declared.certificate.OutputRow.{OutputRow}
use Rattle.dc_cert.specs.declared.certificate.LabelRow.{LabelRow}

pub inputs-count : (c : Certificate) → length (certificate_rows c).inputs ≡ length c.inputs.items
inputs-count c = length-map (map named_input c.inputs.items) input_numbers ∙ length-map c.inputs.items named_input

pub outputs-count : (c : Certificate) → length (certificate_rows c).outputs ≡ length c.outputs.items
outputs-count c = length-map (map named_output c.outputs.items) output_numbers ∙ length-map c.outputs.items named_output

pub ages-count : (c : Certificate) → length (certificate_rows c).ages ≡ length c.labels.items
ages-count c = length-map (map named_label c.labels.items) (λ l. l.age) ∙ length-map c.labels.items named_label

pub input-read : (c : Certificate) (b : ℕ) (row : InputRow) → b < length c.inputs.items → row ≡ get_or c.inputs.items b row → input_bound (certificate_rows c) b ≡ input_numbers (named_input row)
input-read c b row l h =
    get_or-map input_numbers (map named_input c.inputs.items) b (named_input row) (record { window = 0; backlog = 0; delay = 0 }) (omega (arith, length-map c.inputs.items named_input))
    ∙ ap input_numbers (get_or-map named_input c.inputs.items b row (named_input row) l)
    ∙ ap (λ (r : InputRow). input_numbers (named_input r)) (sym h)

pub output-read : (c : Certificate) (o : ℕ) (row : OutputRow) → o < length c.outputs.items → row ≡ get_or c.outputs.items o row → output_bound (certificate_rows c) o ≡ output_numbers (named_output row)
output-read c o row l h =
    get_or-map output_numbers (map named_output c.outputs.items) o (named_output row) (record { window = 0; delay = 0 }) (omega (arith, length-map c.outputs.items named_output))
    ∙ ap output_numbers (get_or-map named_output c.outputs.items o row (named_output row) l)
    ∙ ap (λ (r : OutputRow). output_numbers (named_output r)) (sym h)

pub age-read : (c : Certificate) (x : ℕ) (row : LabelRow) → x < length c.labels.items → row ≡ get_or c.labels.items x row → get_or (certificate_rows c).ages x 0 ≡ row.age
age-read c x row l h =
    get_or-map (λ l. l.age) (map named_label c.labels.items) x (named_label row) 0 (omega (arith, length-map c.labels.items named_label))
    ∙ ap (λ l. l.age) (get_or-map named_label c.labels.items x row (named_label row) l)
    ∙ ap (λ (r : LabelRow). r.age) (sym h)
