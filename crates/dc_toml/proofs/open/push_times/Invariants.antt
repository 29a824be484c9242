use Rattle.std.proofs.Common.{◌≡◌, ◌++◌, replicate}
use Rattle.dc_toml.proofs.open.push_times.Given as goal

abbrev pub invariant-loop-time : goal.invariant-loop-time
invariant-loop-time l = l.names.items ≡ l.fn.names.items ++ replicate l._time l.name
