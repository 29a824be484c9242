use Rattle.std.proofs.Common.{◌≡◌, map, drop}
use Rattle.toml.specs.View.{table_view}
use Rattle.dc_toml.specs.Keys.{all_keys}
use Rattle.dc_toml.proofs.keys.all_present.Given as goal

abbrev pub invariant-loop-key : goal.invariant-loop-key
invariant-loop-key l = all_keys (map (λ k. k.now) (drop l.key-index l.keys)) (table_view l.table) ≡ all_keys (map (λ k. k.now) l.keys) (table_view l.table)
