use Rattle.std.proofs.Common.{◌+◌, ◌-◌, arith}
use Rattle.dc_busy.proofs.Walk.{same_delay, past_window}
use Rattle.dc_busy.proofs.least.DelaysWatcher.see.Goals as goal

pub returns-then-most-self-clause-goes : goal.returns-then-most-self-clause-goes
returns-then-most-self-clause-goes g c =
    let floor = g.S.ServiceBound.floor c.args.self.now.service.now in
    let grows = g.met.S.ServiceBound.floor_monotone c.args.self.now.service.now in
    let later = grows (c.args.ticks - 1 + c.args.self.now.delay) (c.args.until - 1 + c.args.self.now.delay) (omega (arith, c.requires.some)) in
    λ e cap known shown. (
      omega (arith, known.0, later),
      same_delay cap floor grows c.args.self.now.window c.args.ticks c.args.until c.args.most c.args.self.now.delay c.requires.some (omega (arith, c.if-most-self.true, known.0)) known.1 shown,
    )

pub returns-then-most-self-2-clause-goes : goal.returns-then-most-self-2-clause-goes
returns-then-most-self-2-clause-goes g c =
    let floor = g.S.ServiceBound.floor c.args.self.now.service.now in
    let grows = g.met.S.ServiceBound.floor_monotone c.args.self.now.service.now in
    let later = grows (c.args.ticks - 1 + c.args.self.now.delay) (c.args.until - 1 + c.args.self.now.delay) (omega (arith, c.requires.some)) in
    λ e cap known shown. (
      omega (arith, c.at_least-self.ensures, later),
      same_delay cap floor grows c.args.self.now.window c.args.ticks c.args.until c.args.most c.args.self.now.delay c.requires.some (omega (arith, c.if-most-self-2.true, c.at_least-self.ensures)) known.1 shown,
    )

pub returns-then-ticks-self-clause-goes : goal.returns-then-ticks-self-clause-goes
returns-then-ticks-self-clause-goes g c =
    let floor = g.S.ServiceBound.floor c.args.self.now.service.now in
    let grows = g.met.S.ServiceBound.floor_monotone c.args.self.now.service.now in
    let later = grows (c.args.ticks - 1 + c.args.self.now.delay) (c.args.until - 1 + c.args.self.now.delay) (omega (arith, c.requires.some)) in
    λ e cap known shown. (
      omega (arith, c.at_least-self.ensures, later),
      past_window cap floor c.args.self.now.window c.args.ticks c.args.until c.args.self.now.delay (omega (arith, c.if-ticks-self.true)) c.requires.some known.1,
    )
