use Rattle.std.proofs.Common.{◌<◌, length, sym, arith}
use Rattle.dc_check.specs.lemmas.CertificateReads.{inputs-count, input-read}
use Rattle.dc_page.proofs.facts.input_facts.Goals as goal

pub returns : goal.returns
returns c =
    let there : c.args.bus < length c.args.fitted.now.certificate.now.inputs.items = omega (arith, c.requires.there, c.args.fitted.now.sized.inputs, inputs-count c.args.fitted.now.certificate.now) in
    record { claimed = sym (input-read c.args.fitted.now.certificate.now c.args.bus c.index-row.result.now there c.index-row.ensures) }
