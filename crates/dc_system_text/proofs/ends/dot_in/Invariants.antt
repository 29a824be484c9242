use Rattle.std.proofs.Common.{◌≡◌, ◌==◌, drop, position}
use Rattle.std.specs.List.{position_from}
use Rattle.dc_system_text.proofs.ends.dot_in.Given as goal

-- what is left decides
abbrev pub invariant-loop-index : goal.invariant-loop-index
invariant-loop-index l = position_from (λ b. b == 46) l.index (drop l.index l.text) ≡ position (λ b. b == 46) l.text
