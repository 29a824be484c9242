use Rattle.dc_busy.proofs.Walk.{all_delays}
use Rattle.dc_busy.proofs.least.smallest_delay.Goals as goal

pub returns-then-all : goal.returns-then-all
returns-then-all g c =
    let known = c.walk_by_leaps-all.ensures.all c.if-all.true in (
      c.walk_by_leaps-all.result.0.short,
      all_delays (g.A.ArrivalBound.cap c.args.arrivals.now) (g.S.ServiceBound.floor c.walk_by_leaps-all.result.0.service.now) g.K.Served.floor c.walk_by_leaps-all.result.0.floor_is c.walk_by_leaps-all.result.0.window
          g.K.Served.window c.args.window c.walk_by_leaps-all.result.0.delay c.walk_by_leaps-all.result.0.window_is c.requires.window_is known.1,
    )
