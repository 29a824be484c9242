use Rattle.dc_event.proofs.Sends.{send_in_order}
use Rattle.dc_event.proofs.laws.send_in_order.Goals as goal

pub returns : goal.returns
returns c = send_in_order c.args.tables.now c.valid.ensures
