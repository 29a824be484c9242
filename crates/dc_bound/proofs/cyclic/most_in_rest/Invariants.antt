use Rattle.dc_bound.specs.lemmas.Spans.{IsBest}
use Rattle.dc_bound.proofs.cyclic.most_in_rest.Given as goal

abbrev pub invariant-loop-j : goal.invariant-loop-j
invariant-loop-j l = IsBest l.frame l.offsets l.ticks l.j l.best
