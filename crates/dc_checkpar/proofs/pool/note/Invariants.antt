use Rattle.std.proofs.Common.{ℕ, Option}
use Rattle.dc_check.specs.declared.fault.CheckFault.{CheckFault}
use Rattle.dc_checkpar.specs.Reports.{AreJudged, AreKnown}
use Rattle.dc_checkpar.proofs.pool.note.Given as goal

abbrev pub invariant-loop-one : goal.invariant-loop-one
invariant-loop-one l = (verdict : ℕ → Option CheckFault) → AreJudged verdict l.judged.items → AreKnown verdict l.fn.known.items → AreKnown verdict l.known.items
