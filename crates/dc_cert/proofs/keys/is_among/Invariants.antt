use Rattle.std.proofs.Common.{◌≡◌, map, drop}
use Rattle.std.specs.List.{list_any}
use Rattle.dc_cert.specs.Reading.{same_key}
use Rattle.dc_cert.proofs.keys.is_among.Given as goal

abbrev pub invariant-loop-other : goal.invariant-loop-other
invariant-loop-other l = list_any (same_key l.key) (map (λ k. k.now) (drop l.other-index l.keys)) ≡ list_any (same_key l.key) (map (λ k. k.now) l.keys)
