use Rattle.std.proofs.Common.{◌<◌, length, sym, arith}
use Rattle.dc_check.specs.lemmas.CertificateReads.{outputs-count, output-read}
use Rattle.dc_page.proofs.facts.output_facts.Goals as goal

pub returns : goal.returns
returns c =
    let there : c.args.output < length c.args.fitted.now.certificate.now.outputs.items = omega (arith, c.requires.there, c.args.fitted.now.sized.outputs, outputs-count c.args.fitted.now.certificate.now) in
    record { claimed = sym (output-read c.args.fitted.now.certificate.now c.args.output c.index-row.result.now there c.index-row.ensures) }
