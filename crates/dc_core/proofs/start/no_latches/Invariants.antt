use Rattle.std.proofs.Common.{false}
use Rattle.dc_core.specs.Fresh.{AllMade}
use Rattle.dc_core.proofs.start.no_latches.Given as goal

abbrev pub invariant-loop-bus : goal.invariant-loop-bus
invariant-loop-bus l = AllMade (λ _. false) false l._bus l.latched.items
