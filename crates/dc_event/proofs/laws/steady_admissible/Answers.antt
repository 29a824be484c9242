use Rattle.dc_event.proofs.Steadiness.{steady-admissible}
use Rattle.dc_event.proofs.laws.steady_admissible.Goals as goal

pub returns : goal.returns
returns c = steady-admissible c.args.tables.now c.valid.ensures
