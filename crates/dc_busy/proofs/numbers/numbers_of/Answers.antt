use Rattle.std.proofs.Common.{◌≡◌, false, subst}
use Rattle.dc_busy.specs.BusyWindow.{BacklogBounded}
use Rattle.dc_busy.specs.Least.{IsLeast}
use Rattle.dc_busy.proofs.Walk.{all_backlogs, all_delays, to_the_end, some_delay}
use Rattle.dc_busy.proofs.numbers.numbers_of.Goals as goal

pub returns-clause-backlog : goal.returns-clause-backlog
returns-clause-backlog g c =
    let cap = g.A.ArrivalBound.cap c.args.arrivals.now in
    let w = c.walk_by_leaps.result.0 in
    let ended : c.walk_by_leaps.result.1 ≡ false → ⊥ =
    λ f. some_delay cap (g.S.ServiceBound.floor w.delays.service.now) g.K.Served.floor (g.S.ServiceBound.floor c.args.service.now) w.delays.floor_is c.requires.floor_is
    (g.met.A.ArrivalBound.cap_monotone c.args.arrivals.now) (g.met.S.ServiceBound.floor_monotone w.delays.service.now) w.delays.window g.K.Served.window c.args.window
    w.delays.window_is c.requires.window_is c.requires.least c.requires.most c.requires.closes (c.walk_by_leaps.ensures.ended f) in
    subst (λ n. IsLeast (BacklogBounded cap g.K.Served.floor n) w.backlogs.greatest) c.requires.window_is
    (all_backlogs cap (g.S.ServiceBound.floor w.backlogs.service.now) g.K.Served.floor w.backlogs.floor_is c.args.window w.backlogs.greatest
    c.walk_by_leaps.result.1 (λ t. (c.walk_by_leaps.ensures.all t).0.1) ended)

pub returns-clause-delay : goal.returns-clause-delay
returns-clause-delay g c =
    let cap = g.A.ArrivalBound.cap c.args.arrivals.now in
    let w = c.walk_by_leaps.result.0 in
    let ended : c.walk_by_leaps.result.1 ≡ false → ⊥ =
    λ f. some_delay cap (g.S.ServiceBound.floor w.delays.service.now) g.K.Served.floor (g.S.ServiceBound.floor c.args.service.now) w.delays.floor_is c.requires.floor_is
    (g.met.A.ArrivalBound.cap_monotone c.args.arrivals.now) (g.met.S.ServiceBound.floor_monotone w.delays.service.now) w.delays.window g.K.Served.window c.args.window
    w.delays.window_is c.requires.window_is c.requires.least c.requires.most c.requires.closes (c.walk_by_leaps.ensures.ended f) in
    let known = to_the_end c.walk_by_leaps.result.1 (λ t. (c.walk_by_leaps.ensures.all t).1.1) ended in (
      w.delays.short,
      all_delays cap (g.S.ServiceBound.floor w.delays.service.now) g.K.Served.floor w.delays.floor_is w.delays.window
          g.K.Served.window c.args.window w.delays.delay w.delays.window_is c.requires.window_is known,
    )
