use Rattle.std.proofs.Common.{◌+◌, ◌-◌, arith}
use Rattle.dc_busy.proofs.Walk.{patient_delay}
use Rattle.dc_busy.proofs.least.DelaysPatient.passes.Goals as goal

pub returns : goal.returns
returns g c =
    let floor = g.S.ServiceBound.floor c.args.self.now.service.now in
    let grows = g.met.S.ServiceBound.floor_monotone c.args.self.now.service.now in
    λ cap until cap_grows ahead few known. (
      omega (arith, known.0, grows (c.args.ticks - 1 + c.args.self.now.delay) (until + 1 - 1 + c.args.self.now.delay) (omega (arith, ahead))),
      patient_delay cap floor cap_grows grows c.args.self.now.window c.args.ticks until c.at_least.result c.args.self.now.delay ahead (omega (arith, c.at_least.ensures)) few known.1,
    )
