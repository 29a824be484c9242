use Rattle.std.proofs.Common.{◌≡◌, ◌==◌, ◌||◌, drop}
use Rattle.std.specs.List.{position_from}
use Rattle.dc_cell.proofs.digits.place_of.Given as goal

-- what is left decides
abbrev pub invariant-loop-at : goal.invariant-loop-at
invariant-loop-at l = position_from (λ byte. byte == l.one || byte == l.other) l.at (drop l.at l.text) ≡ position_from (λ byte. byte == l.one || byte == l.other) 0 l.text
