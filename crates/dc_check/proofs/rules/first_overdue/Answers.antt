use Rattle.dc_check.specs.lemmas.Firsts.{delay_failure-is}
use Rattle.dc_check.proofs.rules.first_overdue.Goals as goal

pub returns : goal.returns
returns g c = delay_failure-is (g.A.ArrivalBound.cap c.args.arrivals.now) (g.S.ServiceBound.floor c.args.service.now) c.args.window c.args.delay c.delay_fails.result c.delay_fails.ensures
