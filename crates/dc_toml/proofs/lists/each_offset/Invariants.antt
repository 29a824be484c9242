use Rattle.std.proofs.Common.{◌≡◌, drop}
use Rattle.toml.specs.View.{items_view}
use Rattle.dc_toml.specs.Keys.{each_item, number_item}
use Rattle.dc_toml.proofs.Steps.{with_front}
use Rattle.dc_toml.proofs.lists.each_offset.Given as goal

abbrev pub invariant-loop-value : goal.invariant-loop-value
invariant-loop-value l = with_front l.offsets.items (each_item (number_item l.place 0 99999) (items_view (drop l.value-index l.values))) ≡ each_item (number_item l.place 0 99999) (items_view l.values)
