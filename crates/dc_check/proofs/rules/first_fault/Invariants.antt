use Rattle.std.proofs.Common.{◌≡◌, None, take}
use Rattle.dc_check.specs.Verdict.{first_of}
use Rattle.dc_check.proofs.rules.first_fault.Given as goal

abbrev pub invariant-loop-rule : goal.invariant-loop-rule
invariant-loop-rule l = first_of (take l.rule-index l.rules) ≡ None
