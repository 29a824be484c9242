use Rattle.std.proofs.Common.{◌≡◌, drop}
use Rattle.std.specs.List.{list_all}
use Rattle.dc_cell.specs.Digits.{is_digit_or_mark}
use Rattle.dc_cell.proofs.digits.has_only_digits_and_marks.Given as goal

-- what is left decides
abbrev pub invariant-loop-byte : goal.invariant-loop-byte
invariant-loop-byte l = list_all is_digit_or_mark (drop l.byte-index l.text) ≡ list_all is_digit_or_mark l.text
