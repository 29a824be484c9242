use Rattle.std.proofs.Common.{◌<◌, length, sym, ap, ◌∙◌, arith}
use Rattle.dc_cert.specs.Bounds.{input_bound, certificate_rows}
use Rattle.dc_check.specs.lemmas.CertificateReads.{inputs-count, input-read}
use Rattle.dc_margin.proofs.labels.delay_of.Goals as goal

pub returns : goal.returns
returns c =
    let there : c.bus_of.result < length c.args.fitted.now.certificate.now.inputs.items = omega (arith, c.bus_of.ensures.there, c.args.fitted.now.sized.inputs, inputs-count c.args.fitted.now.certificate.now) in
    ap (λ r. r.delay) (sym (input-read c.args.fitted.now.certificate.now c.bus_of.result c.index.result.now there c.index.ensures))
    ∙ ap (λ b. (input_bound (certificate_rows c.args.fitted.now.certificate.now) b).delay) c.bus_of.ensures.bus
