use Rattle.std.proofs.Common.{inl}
use Rattle.dc_cert.specs.NamedRows.{named_rows}
use Rattle.dc_run_report.proofs.Observing.{beside_answered, raised_alone}
use Rattle.dc_run_report.proofs.beside.ReportObservedJudgeTuple2WrittenTablesCertificateWithEnd.judge.Goals as goal

pub returns-clause-answer : goal.returns-clause-answer
returns-clause-answer g c = beside_answered c.args.known.0.tables (named_rows c.args.known.1) _ (g.S.Source.state c.args.given.now.first.now) c.read_and_tell.result c.read_and_tell.ensures.answer

pub returns-clause-raises : goal.returns-clause-raises
returns-clause-raises g c = raised_alone _ _ c.read_and_tell.result c.read_and_tell.ensures.raises

pub returns-clause-asks : goal.returns-clause-asks
returns-clause-asks g c = (c.read_and_tell.ensures.asks, tt)

pub returns-clause-order : goal.returns-clause-order
returns-clause-order g c = λ first are. inl tt

pub returns-clause-threads : goal.returns-clause-threads
returns-clause-threads g c = c.read_and_tell.ensures.threads
