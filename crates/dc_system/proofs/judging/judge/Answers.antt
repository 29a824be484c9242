use Rattle.std.proofs.lemmas.Result.{MatchResult-weaker}
use Rattle.dc_system.specs.lemmas.Judging.{stands-claims, stands-time}
use Rattle.dc_system.proofs.judging.judge.Goals as goal

pub returns-clause-claims : goal.returns-clause-claims
returns-clause-claims c =
    MatchResult-weaker c.judged.result c.judged.ensures (λ w s. stands-claims c.args.members.now c.args.connections.now w.items c.are_judged.ensures c.requires.connections s) (λ fault h. tt)

pub returns-clause-time : goal.returns-clause-time
returns-clause-time c =
    MatchResult-weaker c.judged.result c.judged.ensures (λ w s. stands-time c.args.members.now c.args.connections.now w.items c.are_judged.ensures c.requires.connections s) (λ fault h. tt)
