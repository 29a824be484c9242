use Rattle.std.proofs.Common.{◌≡◌, ◌+◌, cond, get_or}
use Rattle.dc_network.specs.Networks.{feeds, greatest_below}
use Rattle.dc_ways.specs.Members.{link_of}
use Rattle.dc_ways.proofs.longest.greatest_over.Given as goal

-- the greatest so far
abbrev pub invariant-loop-label : goal.invariant-loop-label
invariant-loop-label l = l.most ≡ greatest_below (λ y. cond (feeds l.from l.to (link_of l.link) y l.stream) (l.link.most_us + get_or l.ways y 0) 0) l.label
