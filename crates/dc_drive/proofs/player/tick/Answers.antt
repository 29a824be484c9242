use Rattle.dc_event.specs.declared.event.Event.{Event}
use Rattle.dc_drive.proofs.Halts.{also_err, refused_by}
use Rattle.dc_drive.proofs.player.tick.Goals as goal

pub returns-clause-halts : goal.returns-clause-halts
returns-clause-halts g c =
    also_err g.L.Charter.certified g.L.Charter.limit c.answered.result (λ (x : ⊥). absurd x)
    (c.answered.ensures g.L.Charter.certified g.L.Charter.limit (refused_by (λ (e : Event). e) _ g.L.Charter.certified g.L.Charter.limit _ c.tick-answer.result c.tick-answer.ensures.err))
