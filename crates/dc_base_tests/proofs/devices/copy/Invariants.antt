use Rattle.std.proofs.Common.{◌≡◌}
use Rattle.dc_base_tests.proofs.devices.copy.Given as goal

abbrev pub invariant-loop : goal.invariant-loop
invariant-loop l = (l.source.failures ≡ 0) × (l.sink.failures ≡ 0)
