use Rattle.dc_run_trace.proofs.Runs.{answers_runs}
use Rattle.dc_run_trace.proofs.laws.answers_are_runs.Goals as goal

pub returns : goal.returns
returns c = answers_runs c.args.tables.now c.traces_keep_budgets.ensures c.traces_bring_the_capture.ensures
