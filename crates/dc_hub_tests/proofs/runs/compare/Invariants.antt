use Rattle.dc_hub_tests.specs.OfBoard.{AreOfBoard}
use Rattle.dc_hub_tests.proofs.runs.compare.Given as goal

abbrev pub invariant-loop-step : goal.invariant-loop-step
invariant-loop-step g l = AreOfBoard l.hub l.seats.wires.items
