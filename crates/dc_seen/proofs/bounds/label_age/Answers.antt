use Rattle.std.proofs.Common.{arith, sym}
use Rattle.dc_check.specs.lemmas.CertificateReads.{age-read}
use Rattle.dc_seen.proofs.bounds.label_age.Goals as goal

pub returns : goal.returns
returns c = sym (age-read c.args.certificate.now c.args.label c.index.result.now (omega (arith, c.if-label-len.false, c.len.ensures)) c.index.ensures)
