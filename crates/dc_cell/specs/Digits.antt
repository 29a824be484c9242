-- Cells that hold digits: a label, an equipment code, a length.
use Rattle.std.specs.Prelude.{ℕ, ◌+◌, ◌*◌, ◌==◌, ◌&&◌, ◌||◌, Bool, false, nat_lt, nat_le, if◌then◌else◌, Option, Some, None, option_and_then, List, [], ◌∷◌, length, take, drop, slice_index, position, Result, Ok, Err}
use Rattle.std.specs.List.{list_all}
use Rattle.dc_word.specs.Digits.{digit_in}
use Rattle.dc_bound.specs.declared.limits.TheConstants.{GREATEST_QUEUE}
use Rattle.dc_dict.specs.declared.parameter.TheConstants.{EQUIPMENT_CODES}
use Rattle.dc_document.specs.declared.limits.TheConstants.{MOST_STEPS}
use Rattle.dc_cell.specs.declared.fault.CellFault.{CellFault}
use Rattle.dc_cell.specs.declared.fault.CellFault.TheVariants.{NotLabel, NotEquipment, MadeNumber, NotQueue, NotSteps}

-- the number that digits of a base write, behind n
abbrev pub number_behind : (base n : ℕ) → List ℕ → Option ℕ
number_behind base n [] = Some n
number_behind base n (c ∷ cs) = option_and_then (λ d. number_behind base (n * base + d) cs) (digit_in base c)

-- the number that a text writes in digits of a base: one or more, and at most so many
unfoldable pub number_in : (base most : ℕ) → List ℕ → Option ℕ
number_in base most text = if length text == 0 || nat_lt most (length text) then None else number_behind base 0 text

-- a label is 1 to 377 in octal digits, 255 as a number
abbrev pub label_of_number : Option ℕ → Result ℕ CellFault
label_of_number None = Err NotLabel
label_of_number (Some n) = if nat_le 1 n && nat_le n 255 then Ok n else Err NotLabel

-- the label of a cell of one to three octal digits
abbrev pub label_of : List ℕ → Result ℕ CellFault
label_of text = label_of_number (number_in 8 3 text)

-- the length of a queue, of a cell of one to four decimal digits
abbrev pub queue_of_number : Option ℕ → Result ℕ CellFault
queue_of_number None = Err NotQueue
queue_of_number (Some n) = if nat_le 1 n && nat_le n GREATEST_QUEUE then Ok n else Err NotQueue

abbrev pub queue_of : List ℕ → Result ℕ CellFault
queue_of text = queue_of_number (number_in 10 4 text)

-- a number of steps, of a cell of one to four decimal digits
abbrev pub steps_of_number : Option ℕ → Result ℕ CellFault
steps_of_number None = Err NotSteps
steps_of_number (Some n) = if nat_le 1 n && nat_le n MOST_STEPS then Ok n else Err NotSteps

abbrev pub steps_of : List ℕ → Result ℕ CellFault
steps_of text = steps_of_number (number_in 10 4 text)

-- a decimal digit, a point or a comma, an E
abbrev pub is_digit : ℕ → Bool
is_digit c = nat_le 48 c && nat_le c 57

abbrev pub is_mark : ℕ → Bool
is_mark c = c == 46 || c == 44

abbrev pub is_power_mark : ℕ → Bool
is_power_mark c = c == 69 || c == 101

abbrev pub is_digit_or_mark : ℕ → Bool
is_digit_or_mark c = is_digit c || is_mark c

-- one or more decimal digits
abbrev pub are_digits : List ℕ → Bool
are_digits text = nat_lt 0 (length text) && list_all is_digit text

-- digits, a point or a comma, digits: what a spreadsheet makes of a number
abbrev pub is_fraction_at : List ℕ → Option ℕ → Bool
is_fraction_at text None = false
is_fraction_at text (Some at) = are_digits (take at text) && are_digits (drop (at + 1) text)

-- digits behind a sign or none
abbrev pub is_exponent : List ℕ → Bool
is_exponent text = are_digits text || ((slice_index text 0 == 43 || slice_index text 0 == 45) && are_digits (drop 1 text))

-- a digit, then digits, points and commas
abbrev pub is_factor : List ℕ → Bool
is_factor text = are_digits (take 1 text) && list_all is_digit_or_mark text

-- a factor, an E and an exponent: `1E+02`, `1.00E+02`
abbrev pub is_power_at : List ℕ → Option ℕ → Bool
is_power_at text None = false
is_power_at text (Some at) = is_factor (take at text) && is_exponent (drop (at + 1) text)

-- a decimal number as a spreadsheet writes one
abbrev pub is_made_number : List ℕ → Bool
is_made_number text = is_fraction_at text (position is_mark text) || is_power_at text (position is_power_mark text)

-- the equipment code of one to three hexadecimal digits
abbrev pub equipment_of_number : List ℕ → Option ℕ → Result ℕ CellFault
equipment_of_number text None = if is_made_number text then Err MadeNumber else Err NotEquipment
equipment_of_number text (Some n) = if nat_lt n EQUIPMENT_CODES then Ok n else Err NotEquipment

abbrev pub equipment_of : List ℕ → Result ℕ CellFault
equipment_of text = equipment_of_number text (number_in 16 3 text)
