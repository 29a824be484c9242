use Rattle.std.proofs.Common.{◌≡◌, map}
use Rattle.serde_json.specs.View.{members_view}
use Rattle.dc_cert.specs.Reading.{only_keys}
use Rattle.dc_cert.proofs.keys.only_known.Given as goal

abbrev pub invariant-loop-key : goal.invariant-loop-key
invariant-loop-key l = only_keys (map (λ k. k.now) l.keys) (members_view l.key-iterator) ≡ only_keys (map (λ k. k.now) l.keys) (members_view l.members.entries)
