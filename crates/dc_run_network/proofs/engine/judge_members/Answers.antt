use Rattle.std.proofs.Common.{List, length, sym, subst}
use Rattle.dc_ways.specs.Members.{AreConnections}
use Rattle.dc_ways.specs.declared.connection.Connection.{Connection}
use Rattle.dc_run_network.specs.lemmas.Accepting.{accepted-answer, connections-is}
use Rattle.dc_run_network.specs.lemmas.Ends.{connections-are}
use Rattle.dc_run_network.proofs.engine.judge_members.Goals as goal

pub judge-requires-clause-connections : goal.judge-requires-clause-connections
judge-requires-clause-connections g c =
    let P : List Connection → Type 0 = λ z. AreConnections (length c.args.members.now) z in
    let is = connections-is c.args.system.now c.args.members.now c.concentrators.result.now c.links-links.result.now c.deref.result.now c.in-Ok.connections.items c.concentrators.ensures c.links-links.ensures c.deref.ensures.value c.in-Ok.ensures in
    subst P (sym is) (connections-are c.args.system.now c.args.members.now c.keeps_rules.ensures c.requires)

pub returns-in-Ok-judge-clause-answers : goal.returns-in-Ok-judge-clause-answers
returns-in-Ok-judge-clause-answers g c =
    let is = connections-is c.args.system.now c.args.members.now c.concentrators.result.now c.links-links.result.now c.deref.result.now c.in-Ok.connections.items c.concentrators.ensures c.links-links.ensures c.deref.ensures.value c.in-Ok.ensures in
    accepted-answer c.args.system.now c.args.members.now c.deref.result.now is g.T.Telling.says c.tell-told.result c.ends.result c.tell-told.new.page c.deref-in-Ok-judge-2.result.now c.in-Ok-judge.ways.items
    c.ends.ensures.ends c.deref-in-Ok-judge-2.ensures.value c.tell-told.ensures c.in-Ok-judge.ensures.stands c.in-Ok-judge.ensures.claims c.in-Ok-judge.ensures.time

pub refuse-requires-clause-connections : goal.refuse-requires-clause-connections
refuse-requires-clause-connections g c =
    let P : List Connection → Type 0 = λ z. AreConnections (length c.args.members.now) z in
    let is = connections-is c.args.system.now c.args.members.now c.concentrators.result.now c.links-links.result.now c.deref-in-Err.result.now c.in-Ok.connections.items c.concentrators.ensures c.links-links.ensures c.deref-in-Err.ensures.value c.in-Ok.ensures in
    subst P (sym is) (connections-are c.args.system.now c.args.members.now c.keeps_rules.ensures c.requires)
