use Rattle.std.proofs.Common.{◌≡◌, rules}
use Rattle.std.specs.Arc.{arc_value}
use Rattle.dc_cert.specs.NamedRows.{named_rows}
use Rattle.dc_run.proofs.ByWorkers.{shared_accepted, shared_refused}
use Rattle.dc_run.proofs.par.judge_by.Goals as goal

pub returns-in-Ok-verdict_by-clause-answer : goal.returns-in-Ok-verdict_by-clause-answer
returns-in-Ok-verdict_by-clause-answer g c =
    let t = arc_value c.args.tables.now in
    let shared : arc_value c.in-Ok.shared ≡ t = search rules in
    let lawful : c.deref.result.now ≡ t = search rules in
    let printed : c.deref-in-Ok-verdict_by.result.now ≡ t = search rules in
    shared_accepted t _ (named_rows c.args.certificate) _ _ _ shared lawful printed c.in-Ok-verdict_by.ensures.claims c.no_fault_is_acceptance.ensures c.in-Ok-verdict_by.ensures.exact c.print_accepted.ensures

pub returns-in-Err-Refused-clause-answer : goal.returns-in-Err-Refused-clause-answer
returns-in-Err-Refused-clause-answer g c =
    let t = arc_value c.args.tables.now in
    let shared : arc_value c.in-Ok.shared ≡ t = search rules in
    let printed : c.deref-in-Err-Refused.result.now ≡ t = search rules in
    let exact = rw c.in-Err-Refused.field-0-is at c.in-Err-Refused.ensures.exact in
    shared_refused t _ (named_rows c.args.certificate) _ _ _ _ shared printed c.in-Err-Refused.fault-is exact c.print_refused.ensures
