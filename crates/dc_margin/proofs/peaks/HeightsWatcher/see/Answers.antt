use Rattle.std.proofs.Common.{◌+◌, ◌-◌, ◌≤◌, ap, sym, arith}
use Rattle.dc_margin.specs.Peaks.{needed, waiting}
use Rattle.dc_margin.proofs.Walk.{needed-flat, peak-more, waiting-flat}
use Rattle.dc_margin.proofs.peaks.HeightsWatcher.see.Goals as goal

pub returns-clause-goes : goal.returns-clause-goes
returns-clause-goes g c =
    let now = c.args.self.now in
    let floor = g.S.ServiceBound.floor now.service.now in
    let grows = g.met.S.ServiceBound.floor_monotone now.service.now in
    let ticks = c.args.ticks in
    let until = c.args.until in
    let most = c.args.most in
    let inside : ticks ≤ now.window = omega (arith, c.if-ticks-self.false) in
    let backlog = c.fuller-held.result.0 in
    let delay = c.later-taken.result.0 in
    λ e cap known shown.
    let here = shown ticks (omega arith) c.requires.some in (
      omega (arith, c.fuller-held.ensures.held known.0, grows (ticks - 2) (until - 2) (omega (arith, c.requires.some))),
      (λ short. omega (arith, c.later-taken.ensures.taken known.1 short, grows (ticks - 1 + delay.height) (until - 1 + delay.height) (omega (arith, c.requires.some)))),
      peak-more (waiting cap floor) now.window ticks until c.requires.first inside (waiting-flat cap floor grows ticks until most c.requires.some shown) now.backlog backlog
          (most - floor (ticks - 2)) (omega (arith, here)) (c.fuller-held.ensures.peak known.0) known.2,
      peak-more (needed cap floor) now.window ticks until c.requires.first inside (needed-flat cap floor grows ticks until most c.requires.some shown) now.delay delay
          (needed (λ _. most) floor ticks) (ap (λ n. needed (λ _. n) floor ticks) (sym here)) (c.later-taken.ensures.peak known.1) known.3,
    )
