use Rattle.dc_read_back.specs.Printed.{AreSpelled}
use Rattle.dc_read_back.proofs.spelled.labels_are_spelled.Given as goal

abbrev pub invariant-loop-label : goal.invariant-loop-label
invariant-loop-label l = AreSpelled l.tables.names.labels l.label
