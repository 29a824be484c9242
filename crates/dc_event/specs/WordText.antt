-- A word as eight hexadecimal digits.
use Rattle.std.specs.Prelude.{ℕ, ◌+◌, ◌*◌, ◌/◌, ◌%◌, ◌^◌, ◌==◌, nat_lt, if◌then◌else◌, Option, Some, None, option_and_then, List, [], ◌∷◌, length}
use Rattle.dc_word.specs.Digits.{digit_in}

-- a digit of base 16 or below, in upper case
abbrev pub digit : ℕ → ℕ
digit d = if nat_lt d 10 then 48 + d else 55 + d

-- the eight digits of a word
abbrev pub eight_hex : ℕ → List ℕ
eight_hex n =
    digit (n / 2 ^ 28 % 16) ∷ digit (n / 2 ^ 24 % 16) ∷ digit (n / 2 ^ 20 % 16) ∷ digit (n / 2 ^ 16 % 16)
    ∷ digit (n / 2 ^ 12 % 16) ∷ digit (n / 2 ^ 8 % 16) ∷ digit (n / 2 ^ 4 % 16) ∷ digit (n % 16) ∷ []

-- the number that the digits write, after n
abbrev pub number_behind : ℕ → List ℕ → Option ℕ
number_behind n [] = Some n
number_behind n (c ∷ cs) = option_and_then (λ d. number_behind (n * 16 + d) cs) (digit_in 16 c)

-- the value of a digit, or more than any word where a byte is none
abbrev pub value_or_much : Option ℕ → ℕ
value_or_much (Some d) = d
value_or_much None = 2 ^ 32

-- the word that a text of eight digits writes
unfoldable pub word_of : List ℕ → Option ℕ
word_of text = if length text == 8 then number_behind 0 text else None
