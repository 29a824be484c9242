use Rattle.dc_core.specs.Fresh.{AllMade}
use Rattle.dc_core.proofs.start.no_paces.Given as goal

abbrev pub invariant-loop-stream : goal.invariant-loop-stream
invariant-loop-stream l = AllMade (λ _. 0) 0 l._stream l.paces.items
