use Rattle.std.proofs.Common.{◌≡◌, ◌++◌, take, map}
use Rattle.dc_rules.proofs.schedules.push_entries.Given as goal

abbrev pub invariant-loop-offset : goal.invariant-loop-offset
invariant-loop-offset l =
    l.all.items ≡ l.initial.all.items ++ map (λ t. record { output = l.label.output; offset = t; label = l.number }) (take l.offset-index l.offset-items)
