use Rattle.std.proofs.Common.{◌≡◌, drop, map}
use Rattle.std.specs.List.{list_any}
use Rattle.std.specs.Str.{bytes_eq}
use Rattle.dc_system_text.specs.System.{ConcentratorRow}
use Rattle.dc_system_text.proofs.rules.is_there.Given as goal

-- what is left decides
abbrev pub invariant-loop-one : goal.invariant-loop-one
invariant-loop-one l = list_any (bytes_eq l.name) (map (λ (c : ConcentratorRow). c.name) (drop l.one-index l.concentrators)) ≡ list_any (bytes_eq l.name) (map (λ (c : ConcentratorRow). c.name) l.concentrators)
