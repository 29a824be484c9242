use Rattle.std.proofs.Common.{ℕ, Option}
use Rattle.dc_check.specs.declared.fault.CheckFault.{CheckFault}
use Rattle.dc_checkpar.specs.Reports.{AreKnown}
use Rattle.dc_checkpar.proofs.pool.unknown.Given as goal

abbrev pub invariant-loop : goal.invariant-loop
invariant-loop l = (verdict : ℕ → Option CheckFault) → AreKnown verdict l.known.items
