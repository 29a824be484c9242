use Rattle.std.proofs.Common.{◌<◌, length, sym, arith}
use Rattle.dc_check.specs.lemmas.CertificateReads.{ages-count, age-read}
use Rattle.dc_page.proofs.facts.label_facts.Goals as goal

pub returns : goal.returns
returns c =
    let there : c.args.label < length c.args.fitted.now.certificate.now.labels.items = omega (arith, c.requires.there, c.args.fitted.now.sized.labels, ages-count c.args.fitted.now.certificate.now) in
    record { claimed = sym (age-read c.args.fitted.now.certificate.now c.args.label c.index-2.result.now there c.index-2.ensures) }
