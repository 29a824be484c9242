use Rattle.std.proofs.Common.{ap, arith, sym}
use Rattle.dc_check.specs.lemmas.CertificateReads.{input-read}
use Rattle.dc_seen.proofs.bounds.input_bounds.Goals as goal

pub returns-clause-backlog : goal.returns-clause-backlog
returns-clause-backlog c =
    ap (λ r. r.backlog) (sym (input-read c.args.certificate.now c.args.bus c.index-row.result.now (omega (arith, c.if-bus-len.false, c.len.ensures)) c.index-row.ensures))

pub returns-clause-delay : goal.returns-clause-delay
returns-clause-delay c =
    ap (λ r. r.delay) (sym (input-read c.args.certificate.now c.args.bus c.index-row.result.now (omega (arith, c.if-bus-len.false, c.len.ensures)) c.index-row.ensures))
