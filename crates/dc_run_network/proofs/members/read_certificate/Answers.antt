use Rattle.dc_run_network.specs.lemmas.Halting.{certificate-failed, certificate-refused}
use Rattle.dc_run_network.proofs.members.read_certificate.Goals as goal

pub returns-in-Err-Refused-clause-read : goal.returns-in-Err-Refused-clause-read
returns-in-Err-Refused-clause-read g c = certificate-refused (g.S.Source.state c.args.source.now).remaining c.in-Err-Refused.fault _ c.print_cert_fault.ensures (rw c.in-Err-Refused.field-0-is at c.in-Err-Refused.ensures.certificate)

pub returns-in-Err-Failed-clause-read : goal.returns-in-Err-Failed-clause-read
returns-in-Err-Failed-clause-read g c = certificate-failed (g.S.Source.state c.args.source.now).remaining _ c.halt_by.result c.halt_by.ensures.untold
