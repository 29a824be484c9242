-- Texts and numbers as pages write them.
use Rattle.std.specs.Prelude.{ℕ, zero, suc, ◌+◌, ◌-◌, ◌*◌, ◌/◌, ◌%◌, Bool, not, ◌||◌, ◌&&◌, if◌then◌else◌, nat_eq, nat_lt, List, [], ◌∷◌, ◌++◌, codes, decimal, encode_utf8}
use Rattle.dc_page_text.specs.declared.amount.Amount.{Amount}
use Rattle.dc_page_text.specs.declared.amount.Unit.{Unit}
use Rattle.dc_page_text.specs.declared.amount.Unit.TheVariants.{Ticks, Words, Entries, Inputs, Outputs, Labels, Concentrators, Links, Buses, Streams, Routers}

-- ---- texts

-- whether XML forbids a character: a control character but tab, line feed and carriage return, and U+FFFE and U+FFFF
abbrev pub is_forbidden : ℕ → Bool
is_forbidden c = nat_lt c 9 || nat_eq c 11 || nat_eq c 12 || (nat_lt 13 c && nat_lt c 32) || nat_eq c 65534 || nat_eq c 65535

-- the character that stands for one: U+FFFD where it is forbidden
abbrev pub letter_shown : ℕ → ℕ
letter_shown c = if is_forbidden c then 65533 else c

-- a character, or its entity: &, <, >, " and '
unfoldable pub entity : ℕ → List ℕ
entity c =
    if nat_eq c 38 then codes "&amp;"
    else if nat_eq c 60 then codes "&lt;"
    else if nat_eq c 62 then codes "&gt;"
    else if nat_eq c 34 then codes "&quot;"
    else if nat_eq c 39 then codes "&#39;"
    else encode_utf8 c

-- a text as pages write it, character by character
unfoldable pub escaped : List ℕ → List ℕ
escaped [] = []
escaped (c ∷ cs) = entity (letter_shown c) ++ escaped cs

-- neither <, >, " nor '
abbrev pub is_harmless : ℕ → Bool
is_harmless byte = not (nat_eq byte 60) && not (nat_eq byte 62) && not (nat_eq byte 34) && not (nat_eq byte 39)

-- ---- numbers

-- the last three digits, with noughts in front
unfoldable pub last_three : ℕ → List ℕ
last_three n = decimal (n / 100 % 10) ++ decimal (n / 10 % 10) ++ decimal (n % 10)

-- digits in groups of three from the right, with a comma between two groups, and so many commas at most
unfoldable pub groups_of : (commas : ℕ) → ℕ → List ℕ
groups_of zero n = decimal n
groups_of (suc commas) n = if nat_lt n 1000 then decimal n else groups_of commas (n / 1000) ++ codes "," ++ last_three n

-- the same with as many commas as a number below 10^21 has, so each of 64 bits
unfoldable pub grouped : ℕ → List ℕ
grouped n = groups_of 6 n

-- a number of tenths
abbrev pub tenths : ℕ → List ℕ
tenths n = if nat_eq (n % 10) 0 then decimal (n / 10) else decimal (n / 10) ++ codes "." ++ decimal (n % 10)

-- a number of hundredths
abbrev pub hundredths : ℕ → List ℕ
hundredths n = decimal (n / 100) ++ codes "." ++ decimal (n / 10 % 10) ++ decimal (n % 10)

-- the last three digits without the noughts at their end
abbrev pub trimmed : ℕ → List ℕ
trimmed n =
    if nat_eq (n % 10) 0 then
    (if nat_eq (n / 10 % 10) 0 then decimal (n / 100 % 10) else decimal (n / 100 % 10) ++ decimal (n / 10 % 10))
    else decimal (n / 100 % 10) ++ decimal (n / 10 % 10) ++ decimal (n % 10)

-- a number of thousandths, without noughts at its end
unfoldable pub thousandths : ℕ → List ℕ
thousandths n = if nat_eq (n % 1000) 0 then grouped (n / 1000) else grouped (n / 1000) ++ codes "." ++ trimmed n

-- a number of millionths, without noughts at its end
abbrev pub millionths : ℕ → List ℕ
millionths n =
    if nat_eq (n % 1000) 0 then thousandths (n / 1000)
    else grouped (n / 1000000) ++ codes "." ++ last_three (n / 1000) ++ trimmed n

-- what is counted: one, or another number
abbrev pub one_of : Unit → List ℕ
one_of Ticks = codes "tick"
one_of Words = codes "word"
one_of Entries = codes "entry"
one_of Inputs = codes "input"
one_of Concentrators = codes "concentrator"
one_of Links = codes "link"
one_of Buses = codes "bus"
one_of Streams = codes "stream"
one_of Routers = codes "router"
one_of Outputs = codes "output"
one_of Labels = codes "label"

-- the word for several
abbrev pub more_of : Unit → List ℕ
more_of Ticks = codes "ticks"
more_of Words = codes "words"
more_of Entries = codes "entries"
more_of Inputs = codes "inputs"
more_of Concentrators = codes "concentrators"
more_of Links = codes "links"
more_of Buses = codes "buses"
more_of Streams = codes "streams"
more_of Routers = codes "routers"
more_of Outputs = codes "outputs"
more_of Labels = codes "labels"

-- the word for so many
abbrev pub unit_word : Unit → ℕ → List ℕ
unit_word unit count = if nat_eq count 1 then one_of unit else more_of unit

-- as `1 tick` or `1,000 words`
abbrev pub amount_text : Amount → List ℕ
amount_text amount = grouped amount.count ++ codes " " ++ unit_word amount.unit amount.count

-- ---- what is read again

-- the digits behind a point, of which the first counts tenths of the unit
unfoldable pub behind_point : (unit : ℕ) → List ℕ → ℕ
behind_point unit [] = 0
behind_point unit (byte ∷ bytes) = (byte - 48) * (unit / 10) + behind_point (unit / 10) bytes

-- the number that a text stands for, in parts of which so many are a whole: its digits behind `before`, its commas left out, up to a point
unfoldable pub number_from : (unit before : ℕ) → List ℕ → ℕ
number_from unit before [] = before * unit
number_from unit before (byte ∷ bytes) =
    if nat_eq byte 46 then before * unit + behind_point unit bytes
    else if nat_eq byte 44 then number_from unit before bytes
    else number_from unit (before * 10 + (byte - 48)) bytes
