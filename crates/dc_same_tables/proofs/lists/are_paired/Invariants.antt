use Rattle.std.proofs.Common.{◌≡◌, drop, length}
use Rattle.dc_same_tables.specs.Pairs.{ArePaired}
use Rattle.dc_same_tables.proofs.lists.are_paired.Given as goal

-- what is left decides
abbrev pub invariant-loop-place : goal.invariant-loop-place
invariant-loop-place g l =
    record {
      rest : ArePaired g.T.Member.is_said (drop l.place l.ones) (drop l.place l.others) → ArePaired g.T.Member.is_said l.ones l.others;
      same : length l.ones ≡ length l.others;
    }
