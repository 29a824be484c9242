use Rattle.dc_event.proofs.Queues.{all_enter}
use Rattle.dc_event.proofs.laws.all_enter.Goals as goal

pub returns : goal.returns
returns c = all_enter c.args.tables.now
