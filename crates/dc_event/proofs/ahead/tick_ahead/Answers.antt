use Rattle.dc_event.proofs.LinesAhead.{starts_tick}
use Rattle.dc_event.proofs.ahead.tick_ahead.Goals as goal

pub returns : goal.returns
returns c = starts_tick c.args.names.now c.args.held.now c.requires.long c.requires.kind c.if-held-ne10.false
