use Rattle.std.proofs.Common.{◌≤◌}
use Rattle.dc_capture.proofs.Decimals.{Goes}
use Rattle.dc_capture.specs.declared.time.TheConstants.{LAST_TIME}
use Rattle.dc_capture.proofs.time.read_time.Given as goal

abbrev pub invariant-loop-c : goal.invariant-loop-c
invariant-loop-c l =
    record {
      small : l.time ≤ LAST_TIME;
      goes : Goes l.time l.c-index l.text;
    }
