use Rattle.std.proofs.Common.{◌≡◌, ◌≤◌, drop, length}
use Rattle.dc_cell.specs.Strays.{is_one_off}
use Rattle.dc_cell.proofs.strays.is_one_off.Given as goal

abbrev pub invariant-loop-place : goal.invariant-loop-place
invariant-loop-place l =
    record {
      within : l.place ≤ length l.key;
      goes : is_one_off (drop l.place l.word) (drop l.place l.key) ≡ is_one_off l.word l.key;
    }
