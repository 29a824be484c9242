use Rattle.std.proofs.Common.{◌<◌, length, sym, arith}
use Rattle.dc_check.specs.lemmas.CertificateReads.{ages-count, age-read}
use Rattle.dc_seen_page.proofs.beside.label_beside.Goals as goal

pub returns-clause-age : goal.returns-clause-age
returns-clause-age c =
    let there : c.args.label < length c.args.fitted.now.certificate.now.labels.items = omega (arith, c.requires.there, c.args.fitted.now.sized.labels, ages-count c.args.fitted.now.certificate.now) in
    sym (age-read c.args.fitted.now.certificate.now c.args.label c.index-row.result.now there c.index-row.ensures)
