use Rattle.dc_event.proofs.Steadiness.{steady-ticks}
use Rattle.dc_event.proofs.laws.steady_ticks.Goals as goal

pub returns : goal.returns
returns c = steady-ticks c.args.tables.now
