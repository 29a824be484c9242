use Rattle.std.proofs.Common.{inl}
use Rattle.dc_build.specs.Reported.{TellsTables}
use Rattle.dc_answer.specs.Inputs.{TablesGoOn}
use Rattle.dc_answer.specs.lemmas.Stages.{tables_order, kept_order, none_ask, read_raised, unread_raised}
use Rattle.dc_digest.proofs.Behinds.{refused_raised}
use Rattle.dc_digest.proofs.Digested.{digested_read, digested_refused, tables_loaded}
use Rattle.dc_digest.proofs.stages.DigestTablesJudgeUnitWith.judge.Goals as goal

pub returns-in-Ok-clause-answer : goal.returns-in-Ok-clause-answer
returns-in-Ok-clause-answer g c = digested_read (g.J.Judge.answers c.args.self.now.0) (g.S.Source.state c.args.given.now.first.now) (g.R.Given.states c.args.given.now.rest) _ c.in-Ok.known c.judge.result c.in-Ok.ensures.tables c.judge.ensures.answer

pub returns-in-Ok-clause-raises : goal.returns-in-Ok-clause-raises
returns-in-Ok-clause-raises g c = read_raised _ _ _ _ c.judge.result c.in-Ok.ensures.count c.judge.ensures.raises

pub returns-in-Ok-clause-order : goal.returns-in-Ok-clause-order
returns-in-Ok-clause-order g c = tables_order TellsTables g.R.Given.kept _ _ _ _ (λ t texts. Unit {0}) (g.S.Source.state c.args.given.now.first.now) (g.R.Given.states c.args.given.now.rest) c.in-Ok.known.0 (tables_loaded _ _ c.in-Ok.ensures.tables) (λ first are. inl tt)

pub returns-in-Err-Refused-clause-answer : goal.returns-in-Err-Refused-clause-answer
returns-in-Err-Refused-clause-answer g c =
    let loads = rw c.in-Err-Refused.field-0-is at c.in-Err-Refused.ensures.tables in
    digested_refused (g.J.Judge.answers c.args.self.now.0) (g.S.Source.state c.args.given.now.first.now) (g.R.Given.states c.args.given.now.rest) _ _ _ _ loads c.in-Err-Refused.fault-is c.print_table_fault.ensures c.tell.ensures

pub returns-in-Err-Refused-clause-asks : goal.returns-in-Err-Refused-clause-asks
returns-in-Err-Refused-clause-asks g c = (c.in-Err-Refused.ensures.asks, none_ask _ _)

pub returns-in-Err-Refused-clause-order : goal.returns-in-Err-Refused-clause-order
returns-in-Err-Refused-clause-order g c = kept_order g.R.Given.kept g.R.Given.kept_same _ _ _ (TablesGoOn (λ t texts. Unit {0})) (g.S.Source.state c.args.given.now.first.now) (g.R.Given.states c.args.given.now.rest) tt

pub returns-in-Err-Failed-clause-asks : goal.returns-in-Err-Failed-clause-asks
returns-in-Err-Failed-clause-asks g c = (c.in-Err-Failed.ensures.asks, none_ask _ _)

pub returns-in-Err-Failed-clause-order : goal.returns-in-Err-Failed-clause-order
returns-in-Err-Failed-clause-order g c = kept_order g.R.Given.kept g.R.Given.kept_same _ _ _ (TablesGoOn (λ t texts. Unit {0})) (g.S.Source.state c.args.given.now.first.now) (g.R.Given.states c.args.given.now.rest) tt

pub returns-in-Err-Failed-clause-raises : goal.returns-in-Err-Failed-clause-raises
returns-in-Err-Failed-clause-raises g c = unread_raised _ _ _ c.in-Err-Failed.failure _ _ c.in-Err-Failed.failure-is c.unread.ensures.told (rw c.in-Err-Failed.field-0-is at c.in-Err-Failed.ensures.count)

pub returns-in-Ok-clause-asks : goal.returns-in-Ok-clause-asks
returns-in-Ok-clause-asks g c = (c.in-Ok.ensures.asks, c.judge.ensures.asks)

pub returns-in-Ok-clause-threads : goal.returns-in-Ok-clause-threads
returns-in-Ok-clause-threads g c = c.judge.ensures.threads

pub returns-in-Err-Refused-clause-raises : goal.returns-in-Err-Refused-clause-raises
returns-in-Err-Refused-clause-raises g c = refused_raised _ _ _ (rw c.in-Err-Refused.field-0-is at c.in-Err-Refused.ensures.count)

pub returns-in-Err-Refused-clause-threads : goal.returns-in-Err-Refused-clause-threads
returns-in-Err-Refused-clause-threads g c = tt

pub returns-in-Err-Failed-clause-answer : goal.returns-in-Err-Failed-clause-answer
returns-in-Err-Failed-clause-answer g c = λ texts are. tt

pub returns-in-Err-Failed-clause-threads : goal.returns-in-Err-Failed-clause-threads
returns-in-Err-Failed-clause-threads g c = λ is. absurd (c.unread.ensures.threads is)
