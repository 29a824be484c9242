use Rattle.std.proofs.Common.{◌≡◌, take}
use Rattle.dc_tables.specs.Bounds.{frame_offsets}
use Rattle.dc_tables.proofs.bounds.output_offsets.Given as goal

abbrev pub invariant-loop-output : goal.invariant-loop-output
invariant-loop-output l = l.rows.items ≡ frame_offsets (take l.output-index l.outputs)
