use Rattle.std.proofs.Common.{◌≡◌, take}
use Rattle.dc_rules.proofs.index.Parameters.of.Given as goal

abbrev pub invariant-loop-row : goal.invariant-loop-row
invariant-loop-row l = l.rows ≡ take l.row-index l.parameters
