use Rattle.std.proofs.Common.{take}
use Rattle.dc_rules.proofs.Counted.{AreCounts}
use Rattle.dc_rules.proofs.shape.count_members.Given as goal

abbrev pub invariant-loop-owner : goal.invariant-loop-owner
invariant-loop-owner l = AreCounts (take l.owner-index l.owners) l.count l.all.items
