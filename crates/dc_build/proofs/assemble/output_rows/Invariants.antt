use Rattle.std.proofs.Common.{◌≤◌, length, drop}
use Rattle.dc_build.proofs.Split.{AreSplit}
use Rattle.dc_build.proofs.assemble.output_rows.Given as goal

abbrev pub invariant-loop-output : goal.invariant-loop-output
invariant-loop-output l = AreSplit l.tick_us l.entries l.parts l.output l.rows.items (drop l.first l.entries) × (l.first ≤ length l.entries)
