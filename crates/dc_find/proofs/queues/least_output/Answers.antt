use Rattle.dc_find.proofs.Numbers.{output-least}
use Rattle.dc_find.proofs.queues.least_output.Goals as goal

pub returns : goal.returns
returns g c =
    output-least c.args.tables.now c.args.output (g.A.ArrivalBound.cap c.args.arrivals.now) (g.S.ServiceBound.floor c.args.service.now) c.requires.arrivals c.requires.service
    c.in-Some.times.window c.in-Some.times.delay c.in-Some.ensures
