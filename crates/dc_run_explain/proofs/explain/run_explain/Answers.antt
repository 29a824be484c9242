use Rattle.std.proofs.Common.{[]}
use Rattle.dc_answer.specs.lemmas.Plain.{plain}
use Rattle.dc_run_explain.proofs.Paging.{ends_done}
use Rattle.dc_run_explain.proofs.explain.run_explain.Goals as goal

pub returns-clause-reports : goal.returns-clause-reports
returns-clause-reports g c = plain (c.run.ensures.reports [] tt)

pub returns-clause-done : goal.returns-clause-done
returns-clause-done g c = ends_done _ _ _ _ c.run.result (plain (c.run.ensures.reports [] tt))
