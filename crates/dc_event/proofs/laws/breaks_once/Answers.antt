use Rattle.dc_event.proofs.Firsts.{breaks_once}
use Rattle.dc_event.proofs.laws.breaks_once.Goals as goal

pub returns : goal.returns
returns c = breaks_once c.args.tables.now
