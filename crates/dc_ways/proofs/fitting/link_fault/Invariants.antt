use Rattle.std.proofs.Common.{ℕ, ◌<◌}
use Rattle.dc_ways.specs.Fitting.{KeepsStream}
use Rattle.dc_ways.specs.Members.{link_of, member_of}
use Rattle.dc_ways.proofs.fitting.link_fault.Given as goal

-- those so far keep the rules
abbrev pub invariant-loop-stream : goal.invariant-loop-stream
invariant-loop-stream l = (r : ℕ) → r < l.stream → KeepsStream (member_of l.from) (member_of l.to) (link_of l.link) r
