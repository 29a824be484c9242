use Rattle.std.proofs.Common.{inl}
use Rattle.dc_answer.specs.lemmas.Stages.{read_raised}
use Rattle.dc_digest.proofs.Behinds.{long_refused, read_whole, refused_raised}
use Rattle.dc_digest.proofs.stages.DigestCertificateJudgeTuple2ArrayU832WithEnd.judge.Goals as goal

pub returns-in-Ok-clause-answer : goal.returns-in-Ok-clause-answer
returns-in-Ok-clause-answer g c =
    read_whole c.args.known.1 (λ certificate. g.J.Judge.answers c.args.self.now.0 (c.args.known.0, certificate)) (g.S.Source.state c.args.given.now.first.now) _ _ _ c.judge_text.result c.in-Ok.ensures.text c.as_slice.ensures.value c.judge_text.ensures.answer

pub returns-in-Ok-clause-raises : goal.returns-in-Ok-clause-raises
returns-in-Ok-clause-raises g c = read_raised _ _ 0 0 c.judge_text.result c.in-Ok.ensures.count c.judge_text.ensures.raises

pub returns-in-Ok-clause-asks : goal.returns-in-Ok-clause-asks
returns-in-Ok-clause-asks g c = (c.in-Ok.ensures.asks, tt)

pub returns-in-Ok-clause-order : goal.returns-in-Ok-clause-order
returns-in-Ok-clause-order g c = λ first are. inl tt

pub returns-in-Ok-clause-threads : goal.returns-in-Ok-clause-threads
returns-in-Ok-clause-threads g c = c.judge_text.ensures.threads

pub returns-in-Err-Refused-clause-answer : goal.returns-in-Err-Refused-clause-answer
returns-in-Err-Refused-clause-answer g c =
    let read = rw c.in-Err-Refused.field-0-is at c.in-Err-Refused.ensures.text in
    long_refused c.args.known.1 (λ certificate. g.J.Judge.answers c.args.self.now.0 (c.args.known.0, certificate)) (g.S.Source.state c.args.given.now.first.now) _ _ _ _ read c.in-Err-Refused.fault-is c.tell_fault.ensures.page c.tell_fault.ensures.outcome

pub returns-in-Err-Refused-clause-raises : goal.returns-in-Err-Refused-clause-raises
returns-in-Err-Refused-clause-raises g c = refused_raised _ _ 0 (rw c.in-Err-Refused.field-0-is at c.in-Err-Refused.ensures.count)

pub returns-in-Err-Refused-clause-asks : goal.returns-in-Err-Refused-clause-asks
returns-in-Err-Refused-clause-asks g c = (c.in-Err-Refused.ensures.asks, tt)

pub returns-in-Err-Refused-clause-order : goal.returns-in-Err-Refused-clause-order
returns-in-Err-Refused-clause-order g c = λ first are. inl tt

pub returns-in-Err-Refused-clause-threads : goal.returns-in-Err-Refused-clause-threads
returns-in-Err-Refused-clause-threads g c = tt
