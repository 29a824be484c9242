use Rattle.std.proofs.Common.{◌≡◌, drop, map, take}
use Rattle.std.specs.Str.{bytes_eq}
use Rattle.dc_rules.specs.Rules.{doubled, doubled_from}
use Rattle.dc_system_text.specs.System.{ConcentratorRow}
use Rattle.dc_system_text.proofs.rules.doubled_name.Given as goal

-- what is left decides, behind those before
abbrev pub invariant-loop-index : goal.invariant-loop-index
invariant-loop-index l = doubled_from bytes_eq (map (λ (c : ConcentratorRow). c.name) (take l.index l.concentrators)) l.index (map (λ (c : ConcentratorRow). c.name) (drop l.index l.concentrators)) ≡ doubled bytes_eq (map (λ (c : ConcentratorRow). c.name) l.concentrators)
