use Rattle.std.proofs.Common.{◌≡◌, ◌+◌, get_or}
use Rattle.dc_tables.specs.TableRows.{label_row}
use Rattle.dc_network.specs.Networks.{greatest_below, stay}
use Rattle.dc_ways.specs.Members.{member_of}
use Rattle.dc_ways.proofs.longest.way_of.Given as goal

-- the greatest so far
abbrev pub invariant-loop-source : goal.invariant-loop-source
invariant-loop-source l = l.most ≡ greatest_below (λ k. stay (member_of l.member) l.label + get_or l.before (get_or (label_row l.member.written.tables l.label).sources k 0) 0) l.source-index
