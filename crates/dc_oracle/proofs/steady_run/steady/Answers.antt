use Rattle.dc_oracle.proofs.Steadying.{steady-made}
use Rattle.dc_oracle.proofs.steady_run.steady.Goals as goal

pub returns-clause-admissible : goal.returns-clause-admissible
returns-clause-admissible c = steady-made c.args.tables.now c.args.ticks _ c.steady_admissible.ensures c.steady_ticks.ensures
