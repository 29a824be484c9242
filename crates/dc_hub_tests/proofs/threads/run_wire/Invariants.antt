use Rattle.dc_board.specs.Marks.{IsSeatOf}
use Rattle.dc_hub_tests.proofs.threads.run_wire.Given as goal

abbrev pub invariant-loop-round : goal.invariant-loop-round
invariant-loop-round g l = IsSeatOf l.hub l.wire.marks
