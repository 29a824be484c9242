use Rattle.std.proofs.Common.{arith}
use Rattle.dc_bound.specs.lemmas.CappingLaws.{capped_first, capped_second, capped_later}
use Rattle.dc_bound.proofs.jitter.CappedArrivalBound.at_most_and_jump.Goals as goal

pub returns-then-first-second-clause-jump : goal.returns-then-first-second-clause-jump
returns-then-first-second-clause-jump g c =
    capped_first c.args.self.now.wire c.in-Some.wire c.in-Some.is (g.A.ArrivalBound.cap c.args.self.now.sum) (λ d e h. g.met.A.ArrivalBound.cap_monotone c.args.self.now.sum d e h) c.args.d c.at_most_and_jump-first.result.1
    (omega (arith, c.if-first-second.true, c.at_most_and_jump-first.ensures.most, c.at_most_and_jump-second.ensures.most)) c.at_most_and_jump-first.ensures.jump

pub returns-then-second-first-clause-jump : goal.returns-then-second-first-clause-jump
returns-then-second-first-clause-jump g c =
    capped_second c.args.self.now.wire c.in-Some.wire c.in-Some.is (g.A.ArrivalBound.cap c.args.self.now.sum) (λ d e h. g.met.A.ArrivalBound.cap_monotone c.args.self.now.sum d e h) c.args.d c.at_most_and_jump-second.result.1
    (omega (arith, c.if-second-first.true, c.at_most_and_jump-first.ensures.most, c.at_most_and_jump-second.ensures.most)) c.at_most_and_jump-second.ensures.jump

pub returns-clause-jump : goal.returns-clause-jump
returns-clause-jump g c =
    capped_later c.args.self.now.wire c.in-Some.wire c.in-Some.is (g.A.ArrivalBound.cap c.args.self.now.sum) (λ d e h. g.met.A.ArrivalBound.cap_monotone c.args.self.now.sum d e h) c.args.d c.at_most_and_jump-first.result.1 c.at_most_and_jump-second.result.1 c.later.result
    (omega (arith, c.if-first-second.false, c.if-second-first.false, c.at_most_and_jump-first.ensures.most, c.at_most_and_jump-second.ensures.most)) c.later.ensures c.at_most_and_jump-first.ensures.jump c.at_most_and_jump-second.ensures.jump
