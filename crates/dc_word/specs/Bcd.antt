-- Data of five decimal digits.
use Rattle.std.specs.Prelude.{ℕ, ◌+◌, ◌-◌, ◌*◌, ◌/◌, ◌%◌, ◌^◌, nat_lt, if◌then◌else◌, Result, Ok, Err}
use Rattle.dc_word.specs.Word.{data_of}
use Rattle.dc_word.specs.declared.word.DigitPlace.{DigitPlace}
use Rattle.dc_word.specs.declared.word.DigitPlace.TheVariants.{Second, Third, Fourth, Fifth}

-- a place as a number, the most significant being 1
abbrev pub number_of : DigitPlace → ℕ
number_of Second = 2
number_of Third = 3
number_of Fourth = 4
number_of Fifth = 5

-- the group of bits at a place: bits 26-23, 22-19, 18-15 and 14-11
abbrev pub group_of : ℕ → DigitPlace → ℕ
group_of w place = data_of w / 2 ^ (20 - 4 * number_of place) % 16

-- the number that the five digits write; the first has bits 29-27
abbrev pub decimal_of : ℕ → ℕ
decimal_of w =
    10000 * (data_of w / 2 ^ 16) + 1000 * group_of w Second + 100 * group_of w Third + 10 * group_of w Fourth + group_of w Fifth

-- the number, or the first place whose group is above 9
unfoldable pub bcd_of : ℕ → Result ℕ DigitPlace
bcd_of w =
    if nat_lt 9 (group_of w Second) then Err Second
    else if nat_lt 9 (group_of w Third) then Err Third
    else if nat_lt 9 (group_of w Fourth) then Err Fourth
    else if nat_lt 9 (group_of w Fifth) then Err Fifth
    else Ok (decimal_of w)
