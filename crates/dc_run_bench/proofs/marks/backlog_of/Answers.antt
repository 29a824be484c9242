use Rattle.std.proofs.Common.{ap, sym}
use Rattle.dc_check.specs.lemmas.CertificateReads.{input-read}
use Rattle.dc_run_bench.proofs.marks.backlog_of.Goals as goal

pub returns : goal.returns
returns c = ap (λ r. r.backlog) (sym (input-read c.args.certificate.now c.args.bus c.index.result.now c.requires c.index.ensures))
