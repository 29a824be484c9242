use Rattle.std.proofs.Common.{ℕ}
use Rattle.dc_event.specs.declared.event.Event.TheVariants.{Arrive}
use Rattle.dc_drive.proofs.Halts.{refused_by}
use Rattle.dc_drive.proofs.player.WireSeatPlayer.step.Goals as goal

pub returns-clause-halts : goal.returns-clause-halts
returns-clause-halts g c =
    c.answered.ensures g.L.Charter.certified g.L.Charter.limit (refused_by (λ (bus : ℕ). Arrive _ bus) _ g.L.Charter.certified g.L.Charter.limit _ c.arrive.result c.arrive.ensures.err)
