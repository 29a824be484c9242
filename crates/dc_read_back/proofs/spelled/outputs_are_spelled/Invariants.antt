use Rattle.dc_read_back.specs.Printed.{AreSpelled}
use Rattle.dc_read_back.proofs.spelled.outputs_are_spelled.Given as goal

abbrev pub invariant-loop-output : goal.invariant-loop-output
invariant-loop-output l = AreSpelled l.tables.names.outputs l.output
