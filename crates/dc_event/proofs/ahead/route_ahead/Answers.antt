use Rattle.dc_event.proofs.LinesAhead.{slice_from, starts_route}
use Rattle.dc_event.proofs.ahead.route_ahead.Goals as goal

pub returns : goal.returns
returns c =
    starts_route c.args.names.now c.args.held.now _ c.in_ok-router.router c.in_ok-router.letters c.requires.long c.requires.kind c.if-held-ne32.false
    (slice_from c.args.held.now 2) c.in_ok-router.ensures c.if-text-letters-ne10.false
