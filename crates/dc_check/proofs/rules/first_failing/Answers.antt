use Rattle.std.proofs.Common.{◌∙◌, ap}
use Rattle.dc_check.specs.lemmas.Firsts.{backlog_failure-is, delay_failure-is}
use Rattle.dc_check.specs.Verdict.{backlog_failure}
use Rattle.dc_check.proofs.rules.first_failing.Goals as goal

pub returns : goal.returns
returns g c =
    let cap = g.A.ArrivalBound.cap c.args.arrivals.now in
    let floor = g.S.ServiceBound.floor c.args.service.now in
    record {
      backlog =
          backlog_failure-is cap floor c.args.window c.from.result c.first_failures.result.0 c.first_failures.ensures.backlog
          ∙ ap (λ b. backlog_failure cap floor c.args.window b) c.from.ensures;
      delay = delay_failure-is cap floor c.args.window c.args.delay c.first_failures.result.1 c.first_failures.ensures.delay;
    }
