-- Digits of texts.
use Rattle.std.specs.Prelude.{ℕ, Option, Some, None, if◌then◌else◌}
use Rattle.std.specs.Char.{digit_value, is_digit}

-- the value of a digit in a base of at most 16, its letters in either case
abbrev pub digit_in : (base c : ℕ) → Option ℕ
digit_in base c = if is_digit c base then Some (digit_value c) else None
