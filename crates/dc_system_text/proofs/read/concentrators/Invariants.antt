use Rattle.std.proofs.Common.{◌≡◌, drop, length}
use Rattle.toml.specs.View.{items_view}
use Rattle.dc_system_text.specs.System.{concentrator_at, each_at}
use Rattle.dc_system_text.specs.lemmas.Fronts.{with_front}
use Rattle.dc_system_text.proofs.read.concentrators.Given as goal

abbrev pub invariant-loop-index : goal.invariant-loop-index
invariant-loop-index l = record {
  said : with_front l.all.items (each_at concentrator_at l.index (items_view (drop l.index l.values))) ≡ each_at concentrator_at 0 (items_view l.values);
  each : length l.all.items ≡ l.index;
}
