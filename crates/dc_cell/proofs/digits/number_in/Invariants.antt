use Rattle.std.proofs.Common.{◌<◌, ◌≤◌, ◌^◌, length}
use Rattle.dc_cell.proofs.Numbers.{Goes}
use Rattle.dc_cell.proofs.digits.number_in.Given as goal

abbrev pub invariant-loop-c : goal.invariant-loop-c
invariant-loop-c l =
    record {
      within : l.c-index ≤ length l.text;
      small : l.number < 16 ^ l.c-index;
      goes : Goes l.base l.number l.c-index l.text;
    }
