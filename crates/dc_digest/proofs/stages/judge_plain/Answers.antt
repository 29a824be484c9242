use Rattle.dc_digest.proofs.Behinds.{text_read, text_refused}
use Rattle.dc_digest.proofs.stages.judge_plain.Goals as goal

pub returns-in-Ok-clause-answer : goal.returns-in-Ok-clause-answer
returns-in-Ok-clause-answer g c =
    text_read (λ certificate. g.J.Judge.answers c.args.judge.now (c.args.known, certificate)) c.args.text.now _ c.in-Ok.certificate c.judge.result c.in-Ok.ensures c.judge.ensures.answer

pub returns-in-Err-Unreadable-clause-answer : goal.returns-in-Err-Unreadable-clause-answer
returns-in-Err-Unreadable-clause-answer g c =
    let reads = rw c.in-Err-Unreadable.field-0-is at c.in-Err-Unreadable.ensures in
    text_refused (λ certificate. g.J.Judge.answers c.args.judge.now (c.args.known, certificate)) c.args.text.now _ _ _ _ reads c.in-Err-Unreadable.fault-is c.tell_fault.ensures.page c.tell_fault.ensures.outcome
