use Rattle.dc_event.specs.declared.event.Event.{Event}
use Rattle.dc_drive.proofs.Halts.{refused_by}
use Rattle.dc_drive.proofs.player.RouterSeatPlayer.step.Goals as goal

pub returns-clause-halts : goal.returns-clause-halts
returns-clause-halts g c =
    c.answered.ensures g.L.Charter.certified g.L.Charter.limit (refused_by (λ (e : Event). e) _ g.L.Charter.certified g.L.Charter.limit _ c.route.result c.route.ensures.err)
