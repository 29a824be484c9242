use Rattle.std.proofs.Common.{◌≡◌, ◌++◌, drop}
use Rattle.dc_toml.specs.Reading.{repeated}
use Rattle.dc_toml.proofs.open.repeated.Given as goal

abbrev pub invariant-loop-name : goal.invariant-loop-name
invariant-loop-name l = l.all.items ++ repeated l.times (drop l.name-index l.names) ≡ repeated l.times l.names
