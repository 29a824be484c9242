use Rattle.std.proofs.Common.{ap, arith, sym}
use Rattle.dc_check.specs.lemmas.CertificateReads.{output-read}
use Rattle.dc_seen.proofs.bounds.output_delay.Goals as goal

pub returns : goal.returns
returns c = ap (λ r. r.delay) (sym (output-read c.args.certificate.now c.args.output c.index.result.now (omega (arith, c.if-output-len.false, c.len.ensures)) c.index.ensures))
