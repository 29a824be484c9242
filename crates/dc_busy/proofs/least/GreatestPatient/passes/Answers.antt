use Rattle.std.proofs.Common.{◌+◌, ◌-◌, ap, arith}
use Rattle.dc_busy.proofs.Walk.{patient_backlog}
use Rattle.dc_busy.proofs.least.GreatestPatient.passes.Goals as goal

pub returns : goal.returns
returns g c =
    let floor = g.S.ServiceBound.floor c.args.self.now.service.now in
    let grows = g.met.S.ServiceBound.floor_monotone c.args.self.now.service.now in
    let served = ap floor c.saturating_sub.ensures in
    λ cap until cap_grows ahead few known. (
      omega (arith, known.0, grows (c.args.ticks - 2) (until + 1 - 2) (omega (arith, ahead))),
      patient_backlog cap floor cap_grows grows c.args.ticks until c.saturating_add.result c.args.self.now.greatest ahead (omega (arith, c.saturating_add.ensures, c.at_least-visits.ensures, served)) few known.1,
    )
