use Rattle.dc_capture.specs.Guesses.{AreTold}
use Rattle.dc_capture.proofs.buses.guesses_of.Given as goal

abbrev pub invariant-loop-bus : goal.invariant-loop-bus
invariant-loop-bus l = AreTold l.tables.names.buses l.guesses.places
