use Rattle.std.proofs.Common.{◌≡◌, drop}
use Rattle.toml.specs.View.{items_view}
use Rattle.dc_toml.specs.Written.{written}
use Rattle.dc_toml.specs.Reading.{each_table, read_output}
use Rattle.dc_toml.proofs.sections.read_outputs.Given as goal

abbrev pub invariant-loop-value : goal.invariant-loop-value
invariant-loop-value l =
    each_table (read_output l.layout) (written l.parts) (items_view (drop l.value-index l.values)) ≡ each_table (read_output l.initial.layout) (written l.initial.parts) (items_view l.values)
