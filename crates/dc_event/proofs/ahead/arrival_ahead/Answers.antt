use Rattle.dc_event.proofs.LinesAhead.{slice_from, starts_arrival}
use Rattle.dc_event.proofs.ahead.arrival_ahead.Goals as goal

pub returns : goal.returns
returns c =
    starts_arrival c.args.names.now c.args.held.now _ _ c.in_ok-bus.bus c.in_ok-word.word c.in_ok-bus.letters c.requires.long c.requires.kind c.if-held-ne32.false
    (slice_from c.args.held.now 2) c.in_ok-bus.ensures (slice_from _ c.in_ok-bus.letters) c.in_ok-word.ensures
