use Rattle.std.proofs.lemmas.Result.{MatchResult-weaker}
use Rattle.dc_system.specs.lemmas.Judging.{stands, links-fault, memory-fault}
use Rattle.dc_system.proofs.judging.in_order.Goals as goal

pub returns-in-Some : goal.returns-in-Some
returns-in-Some c = links-fault c.args.members.now c.args.connections.now c.args.places.now c.in-Some.fault c.requires.places c.in-Some.ensures

pub returns-in-None : goal.returns-in-None
returns-in-None c =
    MatchResult-weaker c.with_ways.result c.with_ways.ensures
    (λ w are. stands c.args.members.now c.args.connections.now c.args.places.now w.items c.requires.places c.in-None.ensures are)
    (λ fault h. memory-fault c.args.members.now c.args.connections.now fault h)
