use Rattle.std.proofs.Common.{◌≡◌, None, take}
use Rattle.dc_margin.specs.Lines.{fault_of_lines}
use Rattle.dc_margin.proofs.verdict.is_any_negative.Given as goal

abbrev pub invariant-loop-line : goal.invariant-loop-line
invariant-loop-line l = fault_of_lines (take l.line-index l.lines) ≡ None
