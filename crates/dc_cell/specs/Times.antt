-- Cells that hold a time.
use Rattle.std.specs.Prelude.{ℕ, ◌+◌, ◌*◌, ◌/◌, ◌%◌, ◌^◌, ◌==◌, ◌&&◌, Bool, false, not, nat_le, if◌then◌else◌, Option, Some, None, option_and_then, option_map, List, length, take, drop, slice_index, position, Result, Ok, Err}
use Rattle.dc_cell.specs.Digits.{number_in, is_mark}
use Rattle.dc_cell.specs.declared.fault.CellFault.{CellFault}
use Rattle.dc_cell.specs.declared.fault.CellFault.TheVariants.{NotNumber, MayBeThousands, PartOfMicrosecond, OutOfRange}
use Rattle.dc_cell.specs.declared.times.TimeUnit.{TimeUnit}
use Rattle.dc_cell.specs.declared.times.TimeUnit.TheVariants.{Microseconds, Milliseconds}
use Rattle.dc_cell.specs.declared.times.Decimal.{Decimal}
use Rattle.dc_cell.specs.declared.times.TheConstants.{MOST_US}

-- how many microseconds one of a unit is
abbrev pub unit_us : TimeUnit → ℕ
unit_us Microseconds = 1
unit_us Milliseconds = 1000

-- the part behind a mark: so many digits of it are tenths, hundredths ..
abbrev pub parted : (text : List ℕ) (at whole : ℕ) → Option Decimal
parted text at whole = option_map (λ part. record { whole = whole; part = part; places = length (drop (at + 1) text); is_point = slice_index text at == 46 }) (number_in 10 9 (drop (at + 1) text))

abbrev pub decimal_at : List ℕ → Option ℕ → Option Decimal
decimal_at text None = option_map (λ whole. record { whole = whole; part = 0; places = 0; is_point = false }) (number_in 10 9 text)
decimal_at text (Some at) = option_and_then (λ whole. parted text at whole) (number_in 10 9 (take at text))

-- a number of one to nine digits, and perhaps a point or a comma with one to nine digits behind it
unfoldable pub decimal_of : List ℕ → Option Decimal
decimal_of text = decimal_at text (position is_mark text)

-- Three digits behind a mark may be thousands, but behind a point where commas part the cells.
abbrev pub may_be_thousands : (commas : Bool) → Decimal → Bool
may_be_thousands commas d = (d.places == 3) && not (d.is_point && commas)

-- the part behind the mark is whole microseconds
abbrev pub is_whole : TimeUnit → Decimal → Bool
is_whole unit d = d.part * unit_us unit % 10 ^ d.places == 0

-- the microseconds of a number: `62.5` milliseconds are 62 * 1000 + 5 * 1000 / 10
abbrev pub microseconds : TimeUnit → Decimal → ℕ
microseconds unit d = d.whole * unit_us unit + d.part * unit_us unit / 10 ^ d.places

-- a time in its range
abbrev pub ranged : (least us : ℕ) → Result ℕ CellFault
ranged least us = if nat_le least us && nat_le us MOST_US then Ok us else Err OutOfRange

-- the microseconds of a number in a unit
abbrev pub time_of_decimal : TimeUnit → (commas : Bool) → (least : ℕ) → Option Decimal → Result ℕ CellFault
time_of_decimal unit commas least None = Err NotNumber
time_of_decimal unit commas least (Some d) =
    if may_be_thousands commas d then Err MayBeThousands
    else if is_whole unit d then ranged least (microseconds unit d)
    else Err PartOfMicrosecond

-- the microseconds of a cell, from the least to the greatest that is taken
abbrev pub time_of : TimeUnit → (commas : Bool) → (least : ℕ) → List ℕ → Result ℕ CellFault
time_of unit commas least text = time_of_decimal unit commas least (decimal_of text)
