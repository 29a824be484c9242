use Rattle.std.proofs.Common.{◌≡◌, drop}
use Rattle.toml.specs.View.{items_view}
use Rattle.dc_toml.specs.Keys.{each_item, name_item}
use Rattle.dc_toml.proofs.Steps.{with_front}
use Rattle.dc_toml.proofs.lists.each_name.Given as goal

abbrev pub invariant-loop-value : goal.invariant-loop-value
invariant-loop-value l = with_front l.names.items (each_item (name_item l.place) (items_view (drop l.value-index l.values))) ≡ each_item (name_item l.place) (items_view l.values)
