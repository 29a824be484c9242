use Rattle.dc_cert.specs.Bounds.{certificate_rows}
use Rattle.dc_run_observe.proofs.Observing.{fault_said, lines_said}
use Rattle.dc_run_observe.proofs.engine.tell_followed.Goals as goal

pub returns-in-Some : goal.returns-in-Some
returns-in-Some c = λ from is. fault_said c.args.tables.now (certificate_rows c.args.certificate.now) c.args.followed.now _ _ c.in-Some.fault from c.in-Some.is c.tell_fault.ensures is

pub returns-in-Ok : goal.returns-in-Ok
returns-in-Ok c = λ from is. lines_said c.args.tables.now (certificate_rows c.args.certificate.now) c.args.followed.now _ from c.in_default.is c.in-Ok.ensures is
