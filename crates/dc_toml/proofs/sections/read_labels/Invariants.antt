use Rattle.std.proofs.Common.{◌≡◌, ◌≤◌, drop, length}
use Rattle.toml.specs.View.{items_view}
use Rattle.dc_toml.specs.Written.{written}
use Rattle.dc_toml.specs.Reading.{each_table, read_label}
use Rattle.dc_toml.proofs.sections.read_labels.Given as goal

abbrev pub invariant-loop-value : goal.invariant-loop-value
invariant-loop-value l =
    record {
      rest : each_table (read_label l.layout) (written l.parts) (items_view (drop l.value-index l.values)) ≡ each_table (read_label l.initial.layout) (written l.initial.parts) (items_view l.values);
      output : 1 ≤ length l.parts.outputs;
    }
