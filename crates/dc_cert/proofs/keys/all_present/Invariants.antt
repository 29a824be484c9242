use Rattle.std.proofs.Common.{◌≡◌, map, drop}
use Rattle.serde_json.specs.View.{members_view}
use Rattle.dc_cert.specs.Reading.{all_keys}
use Rattle.dc_cert.proofs.keys.all_present.Given as goal

abbrev pub invariant-loop-key : goal.invariant-loop-key
invariant-loop-key l = all_keys (map (λ k. k.now) (drop l.key-index l.keys)) (members_view l.members.entries) ≡ all_keys (map (λ k. k.now) l.keys) (members_view l.members.entries)
