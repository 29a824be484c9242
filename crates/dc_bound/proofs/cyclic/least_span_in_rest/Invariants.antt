use Rattle.dc_bound.specs.Frame.{IsLeastSpan}
use Rattle.dc_bound.proofs.cyclic.least_span_in_rest.Given as goal

abbrev pub invariant-loop-i : goal.invariant-loop-i
invariant-loop-i l = IsLeastSpan l.frame l.offsets l.k l.i l.least

abbrev pub invariant-loop-j : goal.invariant-loop-j
invariant-loop-j l = IsLeastSpan l.frame l.offsets l.k l.j l.least
