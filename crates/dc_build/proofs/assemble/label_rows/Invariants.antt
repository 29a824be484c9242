use Rattle.std.proofs.Common.{◌≡◌, ◌<◌, take, map}
use Rattle.std.specs.List.{All}
use Rattle.dc_tables.specs.declared.rows.OutputLabel.{OutputLabel}
use Rattle.dc_build.specs.RowsOf.{label_row_of}
use Rattle.dc_build.proofs.assemble.label_rows.Given as goal

abbrev pub invariant-loop-part : goal.invariant-loop-part
invariant-loop-part l = (l.rows.items ≡ map (label_row_of l.tick_us l.parameters l.streams) (take l.part-index l.parts)) × All (λ (r : OutputLabel). (r.label < 256) × (r.sdi < 4)) l.rows.items
