use Rattle.std.proofs.Common.{◌≡◌, drop, position}
use Rattle.std.specs.List.{position_from}
use Rattle.dc_system_text.specs.System.{is_reversed}
use Rattle.dc_system_text.proofs.rules.first_reversed.Given as goal

-- what is left decides
abbrev pub invariant-loop-index : goal.invariant-loop-index
invariant-loop-index l = position_from is_reversed l.index (drop l.index l.links) ≡ position is_reversed l.links
