use Rattle.std.proofs.Common.{◌≡◌, drop}
use Rattle.dc_transmit.specs.Gaps.{first_off}
use Rattle.dc_transmit.specs.Schedule.{off, is_of_label}
use Rattle.dc_transmit.proofs.schedule.first_offset.Given as goal

abbrev pub invariant-loop-entry : goal.invariant-loop-entry
invariant-loop-entry l = first_off off (is_of_label l.label) (drop l.entry-index l.entries) 0 ≡ first_off off (is_of_label l.label) l.entries 0
