use Rattle.std.proofs.Common.{◌≡◌, ◌-◌, length}
use Rattle.dc_cell.specs.Strays.{gap_before}
use Rattle.dc_cell.proofs.strays.gap.Given as goal

abbrev pub invariant-loop-back : goal.invariant-loop-back
invariant-loop-back l = gap_before l.key (length l.key - l.back) ≡ gap_before l.key (length l.key)
