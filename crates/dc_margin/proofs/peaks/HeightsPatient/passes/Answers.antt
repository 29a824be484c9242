use Rattle.std.proofs.Common.{◌+◌, ◌-◌, ap, arith}
use Rattle.dc_margin.specs.Peaks.{needed, waiting}
use Rattle.dc_margin.proofs.Walk.{needed-kept, peak-kept, waiting-kept}
use Rattle.dc_margin.proofs.peaks.HeightsPatient.passes.Goals as goal

pub returns : goal.returns
returns g c =
    let now = c.args.self.now in
    let floor = g.S.ServiceBound.floor now.service.now in
    let grows = g.met.S.ServiceBound.floor_monotone now.service.now in
    let ticks = c.args.ticks in
    let passes = c.min.result in
    λ cap until rises after few known. (
      omega (arith, known.0, grows (ticks - 2) (until + 1 - 2) (omega (arith, after))),
      (λ short. omega (arith, known.1 short, grows (ticks - 1 + now.delay.height) (until + 1 - 1 + now.delay.height) (omega (arith, after)))),
      peak-kept (waiting cap floor) now.window ticks (until + 1) now.backlog.ticks now.backlog.height
          (waiting-kept cap floor rises grows ticks until passes now.backlog.height few
          (omega (arith, c.min.ensures, c.saturating_add-held.ensures, c.at_least-served.ensures, ap floor c.saturating_sub.ensures))) known.2,
      peak-kept (needed cap floor) now.window ticks (until + 1) now.delay.ticks now.delay.height
          (needed-kept cap floor rises grows ticks until passes now.delay.height few (λ short. omega (arith, c.min.ensures, c.in_time.ensures.some short))) known.3,
    )
