use Rattle.std.proofs.Common.{◌≡◌, drop}
use Rattle.toml.specs.View.{items_view}
use Rattle.dc_toml.specs.Written.{written}
use Rattle.dc_toml.specs.Reading.{each_table}
use Rattle.dc_toml.proofs.sections.read_tables_of.Given as goal

abbrev pub invariant-loop-value : goal.invariant-loop-value
invariant-loop-value g l = each_table g.T.TopTable.reading (written l.parts) (items_view (drop l.value-index l.values)) ≡ each_table g.T.TopTable.reading (written l.initial.parts) (items_view l.values)
