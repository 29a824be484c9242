use Rattle.std.proofs.Common.{ℕ, List, ◌+◌, ◌-◌, drop, length, sym, take}
use Rattle.dc_capture.proofs.LinesAhead.{slice_from, starts_word}
use Rattle.dc_capture.proofs.ahead.word_ahead.Goals as goal

pub returns-clause-starts : goal.returns-clause-starts
returns-clause-starts c =
    let held : List ℕ = c.args.held.now in
    let text : List ℕ = take (length held - (c.in_ok-time.digits + 1)) (drop (c.in_ok-time.digits + 1) held) in
    starts_word c.args.buses.now c.args.latest held text (take (length text - (c.in_ok-letters.letters + 1)) (drop (c.in_ok-letters.letters + 1) text)) c.in_ok-time.time c.in_ok-time.digits c.in_ok-letters.letters c.in_ok-bus.bus c.in_ok-word.word
    c.in_ok-time.ensures.starts c.if-time-latest.false (slice_from held (c.in_ok-time.digits + 1)) c.in_ok-letters.ensures.space (sym c.in_ok-bus.ensures.number) (slice_from text (c.in_ok-letters.letters + 1)) c.in_ok-word.ensures
