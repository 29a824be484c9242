use Rattle.std.proofs.Common.{◌≡◌, ◌++◌, drop}
use Rattle.dc_rules.specs.Rules.{entries_from}
use Rattle.dc_rules.proofs.schedules.place_entries.Given as goal

abbrev pub invariant-loop-number : goal.invariant-loop-number
invariant-loop-number l = l.all.items ++ entries_from l.number (drop l.number l.labels) ≡ entries_from 0 l.labels
