use Rattle.dc_trace.specs.lemmas.Stepping.{traces-keep_budgets}
use Rattle.dc_trace.proofs.laws.traces_keep_budgets.Goals as goal

pub returns : goal.returns
returns c = traces-keep_budgets c.args.tables.now (λ n. (c.steady_admissible.ensures n).budgets)
