use Rattle.dc_board.specs.Marks.{IsSeatOf}
use Rattle.dc_drive_tests.proofs.beside.monitor.Given as goal

abbrev pub invariant-loop : goal.invariant-loop
invariant-loop g l = IsSeatOf l.hub l.watch

abbrev pub invariant-loop-bus : goal.invariant-loop-bus
invariant-loop-bus g l = IsSeatOf l.hub l.watch
