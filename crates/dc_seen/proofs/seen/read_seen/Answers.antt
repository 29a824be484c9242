use Rattle.std.proofs.Common.{◌≡◌, Err, rules, ◌∙◌}
use Rattle.std.specs.Global.{Vec}
use Rattle.dc_cert.specs.Bounds.{certificate_rows}
use Rattle.dc_observe.specs.declared.labels.LabelNumbers.{LabelNumbers}
use Rattle.dc_seen.specs.Said.{inputs_only, joined, labels_only, outputs_only}
use Rattle.dc_seen.specs.declared.rows.InputNumbers.{InputNumbers}
use Rattle.dc_seen.specs.declared.rows.OutputNumbers.{OutputNumbers}
use Rattle.dc_seen.specs.lemmas.Joining.{all_said, fourth_fault, said_on}
use Rattle.dc_seen.proofs.Answering.{first_refused, later_refused}
use Rattle.dc_seen.proofs.Places.{seen_start}
use Rattle.dc_seen.proofs.seen.read_seen.Goals as goal

pub returns-in_err-inputs-clause-said : goal.returns-in_err-inputs-clause-said
returns-in_err-inputs-clause-said c =
    let t = c.args.tables.now in
    let rows = certificate_rows c.args.certificate.now in
    let is : c.from_residual.result ≡ Err c.in_err-inputs.field-0.0 = search rules in
    first_refused t rows c.args.text.now _ c.read_inputs.new.place (λ (v : Vec InputNumbers). inputs_only v.items) _ c.from_residual.result c.in_err-inputs.field-0.0 is (seen_start t rows c.args.text.now) c.in_err-inputs.ensures.said

pub returns-in_err-outputs-clause-said : goal.returns-in_err-outputs-clause-said
returns-in_err-outputs-clause-said c =
    let t = c.args.tables.now in
    let rows = certificate_rows c.args.certificate.now in
    let is : c.from_residual-in_err-outputs.result ≡ Err c.in_err-outputs.field-0.0 = search rules in
    later_refused t rows c.args.text.now c.read_inputs.new.place c.read_outputs.new.place (λ (v : Vec OutputNumbers). outputs_only v.items) _ c.from_residual-in_err-outputs.result c.in_err-outputs.field-0.0 (inputs_only c.in_ok-inputs.inputs.items) is
    (seen_start t rows c.args.text.now ∙ c.in_ok-inputs.ensures.said) c.in_err-outputs.ensures.said

pub returns-in_err-labels-clause-said : goal.returns-in_err-labels-clause-said
returns-in_err-labels-clause-said c =
    let t = c.args.tables.now in
    let rows = certificate_rows c.args.certificate.now in
    let is : c.from_residual-in_err-labels.result ≡ Err c.in_err-labels.field-0.0 = search rules in
    let inputs = inputs_only c.in_ok-inputs.inputs.items in
    let outputs = outputs_only c.in_ok-outputs.outputs.items in
    later_refused t rows c.args.text.now c.read_outputs.new.place c.read_labels.new.place (λ (v : Vec LabelNumbers). labels_only v.items) _ c.from_residual-in_err-labels.result c.in_err-labels.field-0.0 (joined inputs outputs) is
    (said_on _ _ _ inputs outputs (seen_start t rows c.args.text.now ∙ c.in_ok-inputs.ensures.said) c.in_ok-outputs.ensures.said) c.in_err-labels.ensures.said

pub returns-in-Ok-clause-said : goal.returns-in-Ok-clause-said
returns-in-Ok-clause-said c =
    let t = c.args.tables.now in
    let rows = certificate_rows c.args.certificate.now in
    all_said _ _ _ _ c.in_ok-inputs.inputs.items c.in_ok-outputs.outputs.items c.in_ok-labels.labels.items (seen_start t rows c.args.text.now ∙ c.in_ok-inputs.ensures.said) c.in_ok-outputs.ensures.said
    c.in_ok-labels.ensures.said (c.in-Ok.ensures rows)

pub returns-in-Err-clause-said : goal.returns-in-Err-clause-said
returns-in-Err-clause-said c =
    let t = c.args.tables.now in
    let rows = certificate_rows c.args.certificate.now in
    fourth_fault _ _ _ _ (inputs_only c.in_ok-inputs.inputs.items) (outputs_only c.in_ok-outputs.outputs.items) (labels_only c.in_ok-labels.labels.items) c.in-Err.fault
    (seen_start t rows c.args.text.now ∙ c.in_ok-inputs.ensures.said) c.in_ok-outputs.ensures.said c.in_ok-labels.ensures.said (c.in-Err.ensures rows)
