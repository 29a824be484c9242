use Rattle.std.proofs.Common.{◌≡◌, ◌<◌, ◌^◌, take, Some}
use Rattle.dc_capture.specs.TimeText.{decimal_behind}
use Rattle.dc_capture.proofs.ahead.time_ahead.Given as goal

abbrev pub invariant-loop-i : goal.invariant-loop-i
invariant-loop-i l =
    record {
      small : l.time < 10 ^ l.i;
      reads : decimal_behind 0 (take l.i l.text) ≡ Some l.time;
    }
