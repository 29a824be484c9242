use Rattle.std.proofs.Common.{ap, arith}
use Rattle.std.proofs.lemmas.List.Sums.{sum_by_more_le}
use Rattle.dc_bound.specs.lemmas.Sums.{sum_bounded}
use Rattle.dc_bound.proofs.arrival.SumOfArrivalBound.at_most.Goals as goal

pub overflow_add-total : goal.overflow_add-total
overflow_add-total g c =
    let cap = g.B.ArrivalBound.cap in
    let more = sum_by_more_le (λ b. cap b c.args.d) c.args.self.now.members.now c.loop-member.member-index c.member-item.result c.loop-member-test.true in
    let all = sum_bounded cap g.met.B.ArrivalBound.cap_monotone c.args.self.now.members.now c.args.self.now.small c.args.d c.requires in
    let item = ap (λ b. cap b c.args.d) c.member-item.is in
    let called = c.at_most-total.ensures in
    omega (arith, more, all, item, called, c.loop-member.invariant.2)
