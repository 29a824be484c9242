use Rattle.dc_event.proofs.Queues.{queues_grow}
use Rattle.dc_event.proofs.laws.queues_grow.Goals as goal

pub returns : goal.returns
returns c = queues_grow c.args.tables.now
