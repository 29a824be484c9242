-- Numbers as `observe` prints them.
use Rattle.std.specs.Prelude.{ℕ, ◌^◌, ◌&&◌, Bool, nat_lt, if◌then◌else◌, Option, Some, None, List, codes, decimal}
use Rattle.std.specs.Option.{option_map}
use Rattle.std.specs.Str.{bytes_eq}
use Rattle.std.specs.Str.Parse.{digits_value}

-- a text is the decimal digits of a number
abbrev pub is_decimal : List ℕ → ℕ → Bool
is_decimal text n = bytes_eq text (decimal n)

-- a number, where it is below 2^64 and the text is its decimal digits
abbrev pub number_if : List ℕ → ℕ → Option ℕ
number_if text n = if nat_lt n (2 ^ 64) && is_decimal text n then Some n else None

-- the number below 2^64 whose decimal digits a text is: so it has no leading zero
unfoldable pub number_of : List ℕ → Option ℕ
number_of text = number_if text (digits_value 10 text)

-- a number, or none for a dash; none at all where the text is neither
unfoldable pub maybe_number_of : List ℕ → Option (Option ℕ)
maybe_number_of text = if bytes_eq text (codes "-") then Some None else option_map (λ n. Some n) (number_of text)
