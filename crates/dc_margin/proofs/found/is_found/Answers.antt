use Rattle.std.proofs.Common.{◌<◌, length, sym, ap, ◌∙◌, arith, subst}
use Rattle.dc_cert.specs.Bounds.{certificate_rows}
use Rattle.dc_check.specs.Placed.{member_count}
use Rattle.dc_check.specs.Verdict.{is_delay}
use Rattle.dc_check.specs.lemmas.CertificateReads.{inputs-count, outputs-count, input-read, output-read}
use Rattle.dc_margin.specs.Found.{is_found}
use Rattle.dc_margin.proofs.found.is_found.Goals as goal

pub returns-in-Inputs : goal.returns-in-Inputs
returns-in-Inputs c =
    let t = c.args.fitted.now.tables.now in
    let own = c.args.fitted.now.certificate.now in
    let here : c.args.index < length c.args.fitted.now.tables.now.buses = subst (λ l. c.args.index < member_count c.args.fitted.now.tables.now l) c.in-Inputs.is c.requires in
    let there : c.args.index < length c.args.fitted.now.certificate.now.inputs.items = omega (arith, here, c.args.fitted.now.sized.inputs, inputs-count c.args.fitted.now.certificate.now) in
    c.is_short.ensures ∙ ap (λ r. is_delay r.delay) (sym (input-read own c.args.index c.index.result.now there c.index.ensures)) ∙ ap (λ l. is_found t (certificate_rows own) l c.args.index) (sym c.in-Inputs.is)

pub returns-in-Outputs : goal.returns-in-Outputs
returns-in-Outputs c =
    let t = c.args.fitted.now.tables.now in
    let own = c.args.fitted.now.certificate.now in
    let here : c.args.index < length c.args.fitted.now.tables.now.outputs = subst (λ l. c.args.index < member_count c.args.fitted.now.tables.now l) c.in-Outputs.is c.requires in
    let there : c.args.index < length c.args.fitted.now.certificate.now.outputs.items = omega (arith, here, c.args.fitted.now.sized.outputs, outputs-count c.args.fitted.now.certificate.now) in
    c.is_short-in-Outputs.ensures ∙ ap (λ r. is_delay r.delay) (sym (output-read own c.args.index c.index-in-Outputs.result.now there c.index-in-Outputs.ensures)) ∙ ap (λ l. is_found t (certificate_rows own) l c.args.index) (sym c.in-Outputs.is)
