use Rattle.std.proofs.Common.{◌<◌, arith, length, sym}
use Rattle.dc_check.specs.lemmas.CertificateReads.{age-read, ages-count}
use Rattle.dc_run_margins.proofs.drift.age_of.Goals as goal

pub returns : goal.returns
returns c =
    let certificate = c.args.certificate.now in
    let there : c.args.label < length certificate.labels.items = omega (arith, c.requires.there, c.requires.sized.labels, ages-count certificate) in
    sym (age-read certificate c.args.label c.index.result.now there c.index.ensures)
