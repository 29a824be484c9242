use Rattle.dc_event.proofs.LinesAhead.{slice_from, starts_send}
use Rattle.dc_event.proofs.ahead.send_ahead.Goals as goal

pub returns : goal.returns
returns c =
    starts_send c.args.names.now c.args.held.now _ c.in_ok-output.output c.in_ok-output.letters c.requires.long c.requires.kind c.if-held-ne32.false
    (slice_from c.args.held.now 2) c.in_ok-output.ensures c.if-text-letters-ne10.false
