use Rattle.dc_event.proofs.Queues.{backlogs_fit}
use Rattle.dc_event.proofs.laws.backlog_fits.Goals as goal

pub returns : goal.returns
returns c = backlogs_fit c.args.tables.now
