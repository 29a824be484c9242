use Rattle.std.proofs.Common.{IfSome, Ok, Err, subst}
use Rattle.dc_answer.specs.declared.inputs.Unloaded.TheVariants.{Refused}
use Rattle.dc_cert.specs.Bounds.{certificate_rows}
use Rattle.dc_cert.specs.NamedRows.{named_rows}
use Rattle.dc_run_report.specs.Paper.{LoadsSeen, observed_of}
use Rattle.dc_run_report.proofs.Observing.{fault_told, not_told, page_told, raised_behind, refused_alone, unread_alone}
use Rattle.dc_seen_page.specs.Rows.{AreSeenOf}
use Rattle.dc_run_report.proofs.beside.read_and_tell.Goals as goal

pub tell_beside-requires : goal.tell_beside-requires
tell_beside-requires g c = subst (λ t. AreSeenOf t c.in-Ok.seen) c.tables.ensures c.in-Ok.ensures.sized

pub returns-in-Ok-clause-answer : goal.returns-in-Ok-clause-answer
returns-in-Ok-clause-answer g c =
    let loads =
    subst (λ t. IfSome (g.S.Source.state c.args.observed.now).remaining (λ text. LoadsSeen (observed_of t (certificate_rows c.args.certificate.now) text) (Ok c.in-Ok.seen))) c.tables.ensures c.in-Ok.ensures.seen in
    page_told c.args.written.now.tables (named_rows c.args.certificate.now) _ _ c.in-Ok.seen c.tell_beside.result loads c.tell_beside.ensures.answer

pub returns-in-Ok-clause-raises : goal.returns-in-Ok-clause-raises
returns-in-Ok-clause-raises g c = raised_behind _ _ c.tell_beside.result c.in-Ok.ensures.count c.tell_beside.ensures.raises

pub returns-in-Err-Refused-clause-answer : goal.returns-in-Err-Refused-clause-answer
returns-in-Err-Refused-clause-answer g c =
    let refused = rw c.in-Err-Refused.field-0-is at c.in-Err-Refused.ensures.seen in
    let loads =
    subst (λ t. IfSome (g.S.Source.state c.args.observed.now).remaining (λ text. LoadsSeen (observed_of t (certificate_rows c.args.certificate.now) text) (Err (Refused c.in-Err-Refused.fault)))) c.tables.ensures refused in
    fault_told c.args.written.now.tables (named_rows c.args.certificate.now) _ _ _ _ c.tell_fault.result loads c.in-Err-Refused.fault-is c.tell_fault.ensures

pub returns-in-Err-Failed-clause-raises : goal.returns-in-Err-Failed-clause-raises
returns-in-Err-Failed-clause-raises g c = unread_alone _ _ c.in-Err-Failed.failure _ _ c.in-Err-Failed.failure-is c.unread.ensures.told (rw c.in-Err-Failed.field-0-is at c.in-Err-Failed.ensures.count)

pub returns-in-Ok-clause-asks : goal.returns-in-Ok-clause-asks
returns-in-Ok-clause-asks g c = c.in-Ok.ensures.asks

pub returns-in-Ok-clause-threads : goal.returns-in-Ok-clause-threads
returns-in-Ok-clause-threads g c = c.tell_beside.ensures.threads

pub returns-in-Err-Refused-clause-raises : goal.returns-in-Err-Refused-clause-raises
returns-in-Err-Refused-clause-raises g c = refused_alone _ _ (rw c.in-Err-Refused.field-0-is at c.in-Err-Refused.ensures.count)

pub returns-in-Err-Refused-clause-asks : goal.returns-in-Err-Refused-clause-asks
returns-in-Err-Refused-clause-asks g c = c.in-Err-Refused.ensures.asks

pub returns-in-Err-Refused-clause-threads : goal.returns-in-Err-Refused-clause-threads
returns-in-Err-Refused-clause-threads g c = tt

pub returns-in-Err-Failed-clause-answer : goal.returns-in-Err-Failed-clause-answer
returns-in-Err-Failed-clause-answer g c = not_told _

pub returns-in-Err-Failed-clause-asks : goal.returns-in-Err-Failed-clause-asks
returns-in-Err-Failed-clause-asks g c = c.in-Err-Failed.ensures.asks

pub returns-in-Err-Failed-clause-threads : goal.returns-in-Err-Failed-clause-threads
returns-in-Err-Failed-clause-threads g c = c.unread.ensures.threads
