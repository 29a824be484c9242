use Rattle.std.proofs.Common.{◌<◌, length, ap, sym, arith}
use Rattle.dc_check.specs.lemmas.CertificateReads.{inputs-count, input-read}
use Rattle.dc_seen_page.proofs.beside.input_beside.Goals as goal

pub returns-clause-backlog : goal.returns-clause-backlog
returns-clause-backlog c =
    let there : c.args.bus < length c.args.fitted.now.certificate.now.inputs.items = omega (arith, c.requires.there, c.args.fitted.now.sized.inputs, inputs-count c.args.fitted.now.certificate.now) in
    ap (λ r. r.backlog) (sym (input-read c.args.fitted.now.certificate.now c.args.bus c.index-row.result.now there c.index-row.ensures))

pub returns-clause-delay : goal.returns-clause-delay
returns-clause-delay c =
    let there : c.args.bus < length c.args.fitted.now.certificate.now.inputs.items = omega (arith, c.requires.there, c.args.fitted.now.sized.inputs, inputs-count c.args.fitted.now.certificate.now) in
    ap (λ r. r.delay) (sym (input-read c.args.fitted.now.certificate.now c.args.bus c.index-row.result.now there c.index-row.ensures))
