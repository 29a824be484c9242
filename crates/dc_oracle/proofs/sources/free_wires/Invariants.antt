use Rattle.dc_oracle.specs.Fresh.{AllMade}
use Rattle.dc_oracle.specs.WireLoad.{no_load}
use Rattle.dc_oracle.proofs.sources.free_wires.Given as goal

abbrev pub invariant-loop-bus : goal.invariant-loop-bus
invariant-loop-bus l = AllMade (λ _. no_load) no_load l._bus l.wires.items
