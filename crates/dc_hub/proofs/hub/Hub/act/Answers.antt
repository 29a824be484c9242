use Rattle.dc_hub.proofs.Lasts.{last_of, refusal_of}
use Rattle.dc_hub.proofs.hub.Hub.act.Goals as goal

pub returns-clause-entry : goal.returns-clause-entry
returns-clause-entry g c = last_of g.L.Charter.certified g.L.Charter.limit _ c.deref_mut.result.now c.act.new.self c.args.event c.act.result c.act.ensures.of_hub.1 c.act.ensures.some.1 c.act.ensures.entry

pub returns-clause-err : goal.returns-clause-err
returns-clause-err g c = refusal_of g.L.Charter.certified g.L.Charter.limit _ c.deref_mut.result.now c.args.event c.act.result c.act.ensures.of_hub.0 c.act.ensures.some.0 c.act.ensures.full c.act.ensures.step c.act.ensures.astray
