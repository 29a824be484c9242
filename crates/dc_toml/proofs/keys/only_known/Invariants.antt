use Rattle.std.proofs.Common.{◌≡◌, map}
use Rattle.toml.specs.View.{members_view, table_view}
use Rattle.dc_toml.specs.Keys.{only_keys}
use Rattle.dc_toml.proofs.keys.only_known.Given as goal

abbrev pub invariant-loop-key : goal.invariant-loop-key
invariant-loop-key l = only_keys (map (λ k. k.now) l.keys) (members_view l.key-iterator) ≡ only_keys (map (λ k. k.now) l.keys) (table_view l.table)
