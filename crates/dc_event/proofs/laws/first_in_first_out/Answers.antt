use Rattle.dc_event.proofs.Queues.{first_in_first_out}
use Rattle.dc_event.proofs.laws.first_in_first_out.Goals as goal

pub returns : goal.returns
returns c = first_in_first_out c.args.tables.now
