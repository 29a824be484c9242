use Rattle.dc_busy.specs.lemmas.Empties.{queue_empties}
use Rattle.dc_busy.specs.lemmas.Law.{queue_backlog, queue_delay, queue_in_time}
use Rattle.dc_busy.proofs.queue_law.Goals as goal

pub returns-clause-backlog : goal.returns-clause-backlog
returns-clause-backlog g c =
    queue_backlog (g.A.ArrivalBound.cap c.args.arrivals.now) (g.S.ServiceBound.floor c.args.service.now) (g.A.ArrivalBound.allows c.args.arrivals.now)
    (λ xs u d ok. g.met.A.ArrivalBound.cap_holds c.args.arrivals.now xs u d ok) c.args.window c.requires.least c.requires.most
    c.args.backlog (g.met.S.ServiceBound.floor_zero c.args.service.now)

pub returns-clause-delay : goal.returns-clause-delay
returns-clause-delay g c =
    queue_delay (g.A.ArrivalBound.cap c.args.arrivals.now) (g.S.ServiceBound.floor c.args.service.now) (g.A.ArrivalBound.allows c.args.arrivals.now)
    (λ xs u d ok. g.met.A.ArrivalBound.cap_holds c.args.arrivals.now xs u d ok) c.args.window c.requires.least c.requires.most
    c.args.delay c.requires.short

pub returns-clause-empties : goal.returns-clause-empties
returns-clause-empties g c =
    queue_empties (g.A.ArrivalBound.cap c.args.arrivals.now) (g.S.ServiceBound.floor c.args.service.now) (g.A.ArrivalBound.allows c.args.arrivals.now)
    (λ xs u d ok. g.met.A.ArrivalBound.cap_holds c.args.arrivals.now xs u d ok) c.args.window c.requires.least c.requires.most

pub returns-clause-in_time : goal.returns-clause-in_time
returns-clause-in_time g c =
    queue_in_time (g.A.ArrivalBound.cap c.args.arrivals.now) (g.S.ServiceBound.floor c.args.service.now) (g.A.ArrivalBound.allows c.args.arrivals.now)
    (λ xs u d ok. g.met.A.ArrivalBound.cap_holds c.args.arrivals.now xs u d ok) c.args.window c.requires.least c.requires.most
    c.args.delay c.requires.short
