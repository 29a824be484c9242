use Rattle.std.proofs.Common.{rules}
use Rattle.dc_same_tables.proofs.Pairing.{at_place, not_so, one_length}
use Rattle.dc_same_tables.proofs.lists.are_paired.Goals as goal

pub returns-then-not-says_the_same : goal.returns-then-not-says_the_same
returns-then-not-says_the_same g c =
    not_so c.says_the_same.result c.says_the_same.ensures (search rules) (at_place g.T.Member.is_said c.args.ones.now c.args.others.now c.loop-place.place _ _ (search rules) c.index-ones-place.is c.in-Some.ensures.lookup.1)

pub returns-then-ones-others : goal.returns-then-ones-others
returns-then-ones-others g c = (
  λ no. absurd (cc no),
  λ h. let same = one_length g.T.Member.is_said c.args.ones.now c.args.others.now h in absurd (c.if-ones-others.true same),
)
