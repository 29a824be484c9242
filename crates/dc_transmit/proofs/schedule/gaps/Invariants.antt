use Rattle.std.proofs.Common.{◌+◌, ◌-◌, length}
use Rattle.dc_transmit.specs.Gaps.{first_off}
use Rattle.dc_transmit.specs.Schedule.{off, is_of_label}
use Rattle.dc_transmit.proofs.Scan.{Scanned}
use Rattle.dc_transmit.proofs.schedule.gaps.Given as goal

abbrev pub invariant-loop-k : goal.invariant-loop-k
invariant-loop-k l = Scanned l.label (l.frame + first_off off (is_of_label l.label) l.entries 0) l.frame l.entries (length l.entries - l.k) l.next l.least l.greatest
