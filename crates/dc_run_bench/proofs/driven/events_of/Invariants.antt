use Rattle.std.proofs.Common.{◌≡◌}
use Rattle.std.specs.Prelude.{take}
use Rattle.dc_hub.specs.Entries.{events}
use Rattle.dc_run_bench.proofs.driven.events_of.Given as goal

abbrev pub invariant-loop-k : goal.invariant-loop-k
invariant-loop-k l = l.events.items ≡ events (take l.k l.entries)
