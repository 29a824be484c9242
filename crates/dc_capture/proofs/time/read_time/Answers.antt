use Rattle.std.proofs.Common.{◌+◌, ◌*◌, arith, get_or, refl, sym}
use Rattle.dc_capture.proofs.Decimals.{Goes, goes_on, too_late}
use Rattle.dc_capture.proofs.time.read_time.Goals as goal

pub returns-then-time-gt-LAST_TIME-clause-time : goal.returns-then-time-gt-LAST_TIME-clause-time
returns-then-time-gt-LAST_TIME-clause-time c =
    let next : Goes (c.loop-c.time * 10 + c.from.result) (c.loop-c.c-index + 1) c.args.text.now =
    rw c.from.ensures (goes_on c.loop-c.time c.loop-c.c-index (get_or c.args.text.now c.loop-c.c-index 0) c.in_ok-digit.digit c.args.text.now c.loop-c-test.true refl (sym c.in_ok-digit.ensures.value) c.loop-c.invariant.goes) in
    sym (too_late (c.loop-c.time * 10 + c.from.result) (c.loop-c.c-index + 1) c.args.text.now (omega arith) c.if-time-gt-LAST_TIME.true next)
