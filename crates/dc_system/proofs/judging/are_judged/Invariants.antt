use Rattle.std.proofs.Common.{ℕ, ◌<◌}
use Rattle.dc_ways.specs.Members.{IsMember, concentrator}
use Rattle.dc_system.proofs.judging.are_judged.Given as goal

-- those so far
abbrev pub invariant-loop-member : goal.invariant-loop-member
invariant-loop-member l = (i : ℕ) → i < l.member-index → IsMember (concentrator l.members i)
