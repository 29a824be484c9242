use Rattle.std.proofs.Common.{◌<◌, ◌≤◌, length, ap, arith, sym}
use Rattle.dc_cert.specs.Bounds.{certificate_rows}
use Rattle.dc_check.specs.lemmas.CertificateReads.{input-read}
use Rattle.dc_run_observe.proofs.bounds.wait_of.Goals as goal

pub returns : goal.returns
returns c = ap (λ r. r.delay) (sym (input-read c.args.certificate.now c.args.bus c.index.result.now (omega (arith, c.if-bus-len.false, c.len.ensures)) c.index.ensures))
