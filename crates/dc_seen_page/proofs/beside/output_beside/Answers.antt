use Rattle.std.proofs.Common.{◌<◌, length, ap, sym, arith}
use Rattle.dc_check.specs.lemmas.CertificateReads.{outputs-count, output-read}
use Rattle.dc_seen_page.proofs.beside.output_beside.Goals as goal

pub returns-clause-delay : goal.returns-clause-delay
returns-clause-delay c =
    let there : c.args.output < length c.args.fitted.now.certificate.now.outputs.items = omega (arith, c.requires.there, c.args.fitted.now.sized.outputs, outputs-count c.args.fitted.now.certificate.now) in
    ap (λ r. r.delay) (sym (output-read c.args.fitted.now.certificate.now c.args.output c.index-row.result.now there c.index-row.ensures))
