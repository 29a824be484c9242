use Rattle.std.proofs.Common.{◌≡◌, [], take, drop}
use Rattle.dc_rules.specs.Rules.{overlap, doubled_from}
use Rattle.dc_rules.proofs.Meeting.{KnowsAll}
use Rattle.dc_rules.proofs.overlaps.first_overlap.Given as goal

abbrev pub invariant-loop-i : goal.invariant-loop-i
invariant-loop-i l = KnowsAll (take l.i l.streams) l.known.labels.keys l.known.exact.keys × (doubled_from overlap (take l.i l.streams) l.i (drop l.i l.streams) ≡ doubled_from overlap [] 0 l.streams)
