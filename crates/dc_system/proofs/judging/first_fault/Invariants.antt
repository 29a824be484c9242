use Rattle.std.proofs.Common.{ℕ, ◌<◌}
use Rattle.dc_system.specs.Judged.{IsGoodAt}
use Rattle.dc_system.proofs.judging.first_fault.Given as goal

-- those so far fit
abbrev pub invariant-loop-k : goal.invariant-loop-k
invariant-loop-k l = (j : ℕ) → j < l.k → IsGoodAt l.members l.connections j
