use Rattle.dc_event.proofs.Queues.{come_before_routed}
use Rattle.dc_event.proofs.laws.come_before_routed.Goals as goal

pub returns : goal.returns
returns c = come_before_routed c.args.tables.now
