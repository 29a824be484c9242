use Rattle.std.proofs.Common.{◌≡◌, drop}
use Rattle.std.specs.List.{position_from}
use Rattle.dc_sheet.specs.Texts.{is_line_end}
use Rattle.dc_sheet.proofs.text.line_end.Given as goal

-- what is left decides
abbrev pub invariant-loop-end : goal.invariant-loop-end
invariant-loop-end l = position_from is_line_end l.end (drop l.end l.text) ≡ position_from is_line_end 0 l.text
