use Rattle.std.proofs.Common.{ℕ, Option, refl, ap, subst, arith}
use Rattle.std.specs.List.{sum_by}
use Rattle.std.proofs.lemmas.List.Sums.{sum_by_more, sum_by_more_le}
use Rattle.dc_bound.specs.lemmas.Jumps.{member_jumps, all_members, one_kept}
use Rattle.dc_bound.specs.Window.{IsNextJump, earlier_jump}
use Rattle.dc_bound.specs.lemmas.Sums.{sum_bounded}
use Rattle.dc_bound.proofs.arrival.SumOfArrivalBound.at_most_and_jump.Goals as goal

pub overflow_add-total : goal.overflow_add-total
overflow_add-total g c =
    let cap = g.B.ArrivalBound.cap in
    let more = sum_by_more_le (λ b. cap b c.args.d) c.args.self.now.members.now c.loop-member.member-index c.member-item.result c.loop-member-test.true in
    let all = sum_bounded cap g.met.B.ArrivalBound.cap_monotone c.args.self.now.members.now c.args.self.now.small c.args.d c.requires in
    let item = ap (λ b. cap b c.args.d) c.member-item.is in
    omega (arith, more, all, item, c.at_most_and_jump-most.ensures.most, c.loop-member.invariant.total)

pub loop-member-preserved : goal.loop-member-preserved
loop-member-preserved g c =
    let cap = g.B.ArrivalBound.cap in
    let members = c.args.self.now.members.now in
    let item = ap (λ b. cap b c.args.d) c.member-item.is in
    record {
      same = refl;
      inside = omega (arith, c.loop-member-test.true);
      total = omega (arith, c.loop-member.invariant.total, sum_by_more (λ b. cap b c.args.d) members c.loop-member.member-index c.member-item.result c.loop-member-test.true, item, c.at_most_and_jump-most.ensures.most);
      jump =
          let kept = c.loop-member.invariant.jump in
          let next = c.at_most_and_jump-most.result.1 in (
            earlier_jump kept.0 next,
            c.earlier-jump.ensures kept.0 kept.1,
            member_jumps cap g.met.B.ArrivalBound.cap_monotone members c.loop-member.member-index c.member-item.result c.loop-member-test.true c.member-item.is c.args.d kept.0 next (earlier_jump kept.0 next)
                kept.2 c.at_most_and_jump-most.ensures.jump refl,
          );
    }

pub returns-clause-jump : goal.returns-clause-jump
returns-clause-jump g c =
    let cap = g.B.ArrivalBound.cap in
    let members = c.args.self.now.members.now in
    let kept = c.loop-member.invariant.jump in
    let P : Option ℕ → Type 0 = λ o. IsNextJump (λ e. sum_by (λ b. cap b e) members) c.args.d o in
    subst P (one_kept c.loop-member.jump kept.0 c.jump_at.result kept.1 c.jump_at.ensures)
    (all_members cap members c.loop-member.member-index c.args.d kept.0 c.loop-member-test.false kept.2)
