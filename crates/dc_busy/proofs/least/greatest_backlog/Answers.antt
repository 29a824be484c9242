use Rattle.dc_busy.proofs.Walk.{all_backlogs}
use Rattle.dc_busy.proofs.least.greatest_backlog.Goals as goal

pub returns : goal.returns
returns g c =
    all_backlogs (g.A.ArrivalBound.cap c.args.arrivals.now) (g.S.ServiceBound.floor c.walk_by_leaps.result.0.service.now) g.K.Served.floor c.walk_by_leaps.result.0.floor_is c.args.window
    c.walk_by_leaps.result.0.greatest c.walk_by_leaps.result.1 (λ all. (c.walk_by_leaps.ensures.all all).1) c.walk_by_leaps.ensures.ended
