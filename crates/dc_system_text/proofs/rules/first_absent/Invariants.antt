use Rattle.std.proofs.Common.{◌≡◌, drop, map, position}
use Rattle.std.specs.List.{position_from}
use Rattle.dc_system_text.specs.System.{ConcentratorRow, is_absent}
use Rattle.dc_system_text.proofs.rules.first_absent.Given as goal

-- what is left decides
abbrev pub invariant-loop-index : goal.invariant-loop-index
invariant-loop-index l =
    position_from (is_absent (map (λ (c : ConcentratorRow). c.name) l.concentrators)) l.index (drop l.index l.links) ≡ position (is_absent (map (λ (c : ConcentratorRow). c.name) l.concentrators)) l.links
