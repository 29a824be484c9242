use Rattle.dc_oracle.specs.Fresh.{AllMade}
use Rattle.dc_observe.proofs.parts.all_of.Given as goal

abbrev pub invariant-loop-number : goal.invariant-loop-number
invariant-loop-number g l = AllMade (λ _. l.value) l.value l._number l.values.items
