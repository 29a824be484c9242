use Rattle.dc_event.proofs.LongKeys.{starts_any}
use Rattle.dc_event.proofs.names.KnownNames.any_router_ahead.Goals as goal

pub returns-in-Some : goal.returns-in-Some
returns-in-Some c = starts_any _ c.args.text.now c.in-Some.ahead.0 c.in-Some.ahead.1 c.in-Some.ensures
