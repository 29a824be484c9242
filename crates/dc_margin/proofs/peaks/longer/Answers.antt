use Rattle.std.proofs.Common.{arith}
use Rattle.dc_margin.proofs.Walk.{needed-at}
use Rattle.dc_margin.proofs.peaks.longer.Goals as goal

pub returns : goal.returns
returns g c =
    let done = c.loop-low.invariant in
    needed-at (g.S.ServiceBound.floor c.args.service.now) (g.met.S.ServiceBound.floor_monotone c.args.service.now) c.args.most c.args.ticks c.loop-low.high done.end
    (λ e below. done.too_few e (omega (arith, below, c.loop-low-test.false))) done.enough
