use Rattle.std.proofs.Common.{◌-◌, ap, arith}
use Rattle.dc_busy.proofs.Walk.{more_backlog, same_backlog}
use Rattle.dc_busy.proofs.least.GreatestWatcher.see.Goals as goal

pub returns-then-most-self-clause-goes : goal.returns-then-most-self-clause-goes
returns-then-most-self-clause-goes g c =
    let floor = g.S.ServiceBound.floor c.args.self.now.service.now in
    let grows = g.met.S.ServiceBound.floor_monotone c.args.self.now.service.now in
    let later = grows (c.args.ticks - 2) (c.args.until - 2) (omega (arith, c.requires.some)) in
    λ e cap known shown. (
      omega (arith, known.0, later),
      same_backlog cap floor grows c.args.ticks c.args.until c.args.most c.args.self.now.greatest c.requires.some (omega (arith, c.if-most-self.true, known.0)) known.1 shown,
    )

pub returns-clause-goes : goal.returns-clause-goes
returns-clause-goes g c =
    let floor = g.S.ServiceBound.floor c.args.self.now.service.now in
    let grows = g.met.S.ServiceBound.floor_monotone c.args.self.now.service.now in
    let later = grows (c.args.ticks - 2) (c.args.until - 2) (omega (arith, c.requires.some)) in
    let served = ap floor c.saturating_sub.ensures in
    λ e cap known shown. (
      omega (arith, c.saturating_add-self.ensures, c.at_least-served.ensures, served, later),
      more_backlog cap floor grows c.args.ticks c.args.until c.args.most c.args.self.now.greatest c.max-self.result c.requires.first c.requires.some
          (omega (arith, c.max-self.ensures, c.saturating_sub-waiting.ensures, c.at_least-served.ensures, served)) known.1 shown,
    )
