use Rattle.std.proofs.Common.{ℕ, ◌∙◌, subst, arith, inl, inr}
use Rattle.std.proofs.lemmas.Bool.{cases_lt}
use Rattle.std.proofs.lemmas.List.{get_or_default}
use Rattle.dc_ways.specs.Members.{MemberRows, IsMember, concentrator, no_member}
use Rattle.dc_system.proofs.judging.are_judged.Goals as goal

pub loop-member-preserved : goal.loop-member-preserved
loop-member-preserved c = λ i l. elim (cases_lt i c.loop-member.member-index) [
  | inl before ↦ c.loop-member.invariant i before
  | inr not ↦
      let is = c.member-item.is ∙ get_or_default c.args.members.now c.loop-member.member-index c.member-item.result no_member c.loop-member-test.true in
      let P : ℕ → Type 0 = λ k. IsMember (concentrator c.args.members.now k) in
      subst P (omega (arith, l, not)) (subst (λ (m : MemberRows). IsMember m) is c.judged.ensures)
]
