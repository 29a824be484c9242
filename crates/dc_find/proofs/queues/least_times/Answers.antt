use Rattle.std.proofs.Common.{refl, sym, subst}
use Rattle.std.specs.Option.{IsSome}
use Rattle.dc_busy.specs.BusyWindow.{DelayBounded}
use Rattle.dc_busy.specs.Least.{IsLeastUpToLongest}
use Rattle.dc_busy.specs.lemmas.Least.{closing-has_delay}
use Rattle.dc_find.proofs.Numbers.{least-times}
use Rattle.dc_find.proofs.queues.least_times.Goals as goal

pub unwrap-delay-requires : goal.unwrap-delay-requires
unwrap-delay-requires g c =
    let there = closing-has_delay (g.A.ArrivalBound.cap c.args.arrivals.now) (g.S.ServiceBound.floor c.args.service.now)
    (g.met.A.ArrivalBound.cap_monotone c.args.arrivals.now) (g.met.S.ServiceBound.floor_monotone c.args.service.now)
    c.in-Some.window c.in-Some.ensures.1.0.0 c.in-Some.ensures.0 c.in-Some.ensures.1.0.1 c.least_delay.result c.least_delay.ensures.exact in
    subst IsSome (sym there.1) refl

pub returns : goal.returns
returns g c =
    least-times (g.A.ArrivalBound.cap c.args.arrivals.now) (g.S.ServiceBound.floor c.args.service.now) c.in-Some.window c.unwrap-delay.result c.in-Some.ensures
    (subst (IsLeastUpToLongest (DelayBounded (g.A.ArrivalBound.cap c.args.arrivals.now) (g.S.ServiceBound.floor c.args.service.now) c.in-Some.window)) c.unwrap-delay.ensures c.least_delay.ensures.exact)
