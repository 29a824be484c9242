use Rattle.dc_find.proofs.Numbers.{times-of}
use Rattle.dc_find.proofs.queues.least_of.Goals as goal

pub returns-clause-times : goal.returns-clause-times
returns-clause-times g c =
    times-of (g.A.ArrivalBound.cap c.args.arrivals.now) (g.S.ServiceBound.floor c.args.service.now) c.least_numbers.result c.least_numbers.ensures.window c.least_numbers.ensures.delay
