use Rattle.std.proofs.Common.{◌≡◌, length}
use Rattle.dc_cell.proofs.shown.Shown.new.Given as goal

abbrev pub invariant-loop-i : goal.invariant-loop-i
invariant-loop-i l = length l.bytes ≡ 24
