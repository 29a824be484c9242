use Rattle.std.proofs.Common.{◌∙◌, arith}
use Rattle.dc_margin.proofs.Walk.{needs-most, needs-within, needs-enough, needs-more, still-short, stays-late, grows-late}
use Rattle.dc_margin.proofs.peaks.later.Goals as goal

pub returns-then-most-taken-clause-peak : goal.returns-then-most-taken-clause-peak
returns-then-most-taken-clause-peak g c =
    let floor = g.S.ServiceBound.floor c.args.service.now in
    let grows = g.met.S.ServiceBound.floor_monotone c.args.service.now in
    λ known. stays-late floor grows c.args.most c.args.ticks c.args.peak
    (needs-within floor grows c.args.most c.args.ticks c.args.peak.height (λ short. omega (arith, c.if-most-taken.true, known short)))

pub returns-then-most-served-clause-peak : goal.returns-then-most-served-clause-peak
returns-then-most-served-clause-peak g c =
    let floor = g.S.ServiceBound.floor c.args.service.now in
    let grows = g.met.S.ServiceBound.floor_monotone c.args.service.now in
    λ known. stays-late floor grows c.args.most c.args.ticks c.args.peak
    (needs-within floor grows c.args.most c.args.ticks c.args.peak.height (λ short. omega (arith, c.if-most-served.true, c.in_time-served.ensures.some short)))

pub longer-requires-clause-low : goal.longer-requires-clause-low
longer-requires-clause-low g c = still-short c.args.peak.height c.args.most c.in_time-served.result c.in_time-served.ensures.all (omega (arith, c.ranges.most.fits)) (omega (arith, c.if-most-served.false))

pub longer-requires-clause-fails : goal.longer-requires-clause-fails
longer-requires-clause-fails g c =
    let low = still-short c.args.peak.height c.args.most c.in_time-served.result c.in_time-served.ensures.all (omega (arith, c.ranges.most.fits)) (omega (arith, c.if-most-served.false)) in
    omega (arith, c.if-most-served.false, c.in_time-served.ensures.some low)

pub returns-clause-peak : goal.returns-clause-peak
returns-clause-peak g c =
    let floor = g.S.ServiceBound.floor c.args.service.now in
    let grows = g.met.S.ServiceBound.floor_monotone c.args.service.now in
    let low = still-short c.args.peak.height c.args.most c.in_time-served.result c.in_time-served.ensures.all (omega (arith, c.ranges.most.fits)) (omega (arith, c.if-most-served.false)) in
    λ known. grows-late floor grows c.args.most c.args.ticks c.args.peak c.from-height.result (c.from-height.ensures ∙ c.longer.ensures)
    (needs-more floor grows c.args.most c.args.ticks c.args.peak.height low (omega (arith, c.if-most-served.false, c.in_time-served.ensures.some low)))

pub returns-clause-taken : goal.returns-clause-taken
returns-clause-taken g c =
    let floor = g.S.ServiceBound.floor c.args.service.now in
    let grows = g.met.S.ServiceBound.floor_monotone c.args.service.now in
    λ known short. needs-enough floor grows c.args.most c.args.ticks c.from-height.result (c.from-height.ensures ∙ c.longer.ensures) short

pub returns-clause-low : goal.returns-clause-low
returns-clause-low g c =
    let floor = g.S.ServiceBound.floor c.args.service.now in
    let grows = g.met.S.ServiceBound.floor_monotone c.args.service.now in
    omega (arith, c.from-height.ensures, c.longer.ensures, needs-most floor grows c.args.most c.args.ticks)
