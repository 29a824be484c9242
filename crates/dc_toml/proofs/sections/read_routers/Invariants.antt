use Rattle.std.proofs.Common.{◌≡◌, drop}
use Rattle.toml.specs.View.{items_view}
use Rattle.dc_toml.specs.Written.{written}
use Rattle.dc_toml.specs.Reading.{each_table, read_router}
use Rattle.dc_toml.proofs.sections.read_routers.Given as goal

abbrev pub invariant-loop-value : goal.invariant-loop-value
invariant-loop-value l =
    each_table (read_router l.layout) (written l.parts) (items_view (drop l.value-index l.values)) ≡ each_table (read_router l.initial.layout) (written l.initial.parts) (items_view l.values)
