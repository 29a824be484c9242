-- Numbers as digits.
use Rattle.std.specs.Prelude.{ℕ, ◌/◌, ◌%◌, ◌^◌, List, [], ◌∷◌}
use Rattle.dc_event.specs.WordText.{digit}

-- the 19 bits of discretes, as five hexadecimal digits
abbrev pub five_hex : ℕ → List ℕ
five_hex n =
    digit (n / 2 ^ 16 % 16) ∷ digit (n / 2 ^ 12 % 16) ∷ digit (n / 2 ^ 8 % 16) ∷ digit (n / 2 ^ 4 % 16) ∷ digit (n % 16) ∷ []

-- a BCD number, as its five digits
abbrev pub five_decimal : ℕ → List ℕ
five_decimal n =
    digit (n / 10000 % 10) ∷ digit (n / 1000 % 10) ∷ digit (n / 100 % 10) ∷ digit (n / 10 % 10) ∷ digit (n % 10) ∷ []

-- a label, as its three octal digits
abbrev pub three_octal : ℕ → List ℕ
three_octal n = digit (n / 64 % 8) ∷ digit (n / 8 % 8) ∷ digit (n % 8) ∷ []
