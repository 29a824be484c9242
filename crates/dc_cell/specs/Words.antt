-- Cells that hold a word: a speed, a format, an SDI, yes or no. Letters are taken in either case.
use Rattle.std.specs.Prelude.{ℕ, Bool, true, false, ◌||◌, ◌==◌, bytes_eq, codes, map, List, length, nat_lt, if◌then◌else◌, Option, Some, None, Result, Ok, Err}
use Rattle.std.specs.Char.{to_ascii_lowercase}
use Rattle.dc_document.specs.declared.parts.Speed.{Speed}
use Rattle.dc_document.specs.declared.parts.Speed.TheVariants.{High, Low}
use Rattle.dc_word.specs.declared.format.Format.{Format}
use Rattle.dc_word.specs.declared.format.Format.TheVariants.{Bnr, Bcd, Disc}
use Rattle.dc_cell.specs.declared.fault.CellFault.{CellFault}
use Rattle.dc_cell.specs.declared.fault.CellFault.TheVariants.{NotSpeed, NotFormat, NotPolice, NotSdi}

-- a text is this word, but for the case of its letters
abbrev pub is_word : (word text : List ℕ) → Bool
is_word word text = bytes_eq (map to_ascii_lowercase text) (map to_ascii_lowercase word)

-- a cell with nothing in it
abbrev pub is_empty : List ℕ → Bool
is_empty text = length text == 0

-- high speed is 100 kilobits a second, low speed 12.5
abbrev pub is_high : List ℕ → Bool
is_high text = is_word (codes "high") text || is_word (codes "hs") text || is_word (codes "100") text

abbrev pub is_low : List ℕ → Bool
is_low text = is_word (codes "low") text || is_word (codes "ls") text || is_word (codes "12.5") text || is_word (codes "12,5") text

-- the speed that a cell names
abbrev pub speed_of : List ℕ → Result Speed CellFault
speed_of text = if is_high text then Ok High else if is_low text then Ok Low else Err NotSpeed

-- discretes are named in three ways
abbrev pub is_disc : List ℕ → Bool
is_disc text = is_word (codes "disc") text || is_word (codes "discrete") text || is_word (codes "dis") text

-- the format that a cell names
abbrev pub format_of : List ℕ → Result Format CellFault
format_of text = if is_word (codes "bnr") text then Ok Bnr else if is_word (codes "bcd") text then Ok Bcd else if is_disc text then Ok Disc else Err NotFormat

-- a cell that says yes, and one that says no or nothing
abbrev pub is_yes : List ℕ → Bool
is_yes text = is_word (codes "yes") text || is_word (codes "true") text || is_word (codes "1") text || is_word (codes "x") text

abbrev pub is_no : List ℕ → Bool
is_no text = is_empty text || is_word (codes "no") text || is_word (codes "false") text || is_word (codes "0") text

-- whether a bus is to refuse early words
abbrev pub police_of : List ℕ → Result Bool CellFault
police_of text = if is_yes text then Ok true else if is_no text then Ok false else Err NotPolice

-- An SDI as a number of one digit, or as bits 10 and 9 in this order: `01` is 1, and `10` is 2.
abbrev pub sdi_number_of : List ℕ → Option ℕ
sdi_number_of text =
    if is_word (codes "0") text || is_word (codes "00") text then Some 0
    else if is_word (codes "1") text || is_word (codes "01") text then Some 1
    else if is_word (codes "2") text || is_word (codes "10") text then Some 2
    else if is_word (codes "3") text || is_word (codes "11") text then Some 3
    else None

-- the SDI that a cell writes, 0 to 3
abbrev pub sdi_of_number : Option ℕ → Result ℕ CellFault
sdi_of_number None = Err NotSdi
sdi_of_number (Some number) = if nat_lt number 4 then Ok number else Err NotSdi

abbrev pub sdi_of : List ℕ → Result ℕ CellFault
sdi_of text = sdi_of_number (sdi_number_of text)

-- a cell that says that every SDI is meant
abbrev pub is_any : List ℕ → Bool
is_any text = is_empty text || is_word (codes "any") text || is_word (codes "all") text || is_word (codes "x") text || is_word (codes "-") text

-- the SDI of an SDI
abbrev pub one_sdi : Result ℕ CellFault → Result (Option ℕ) CellFault
one_sdi (Ok sdi) = Ok (Some sdi)
one_sdi (Err fault) = Err fault

-- of an input: one SDI, or any where the cell is empty or says so
abbrev pub input_sdi_of : List ℕ → Result (Option ℕ) CellFault
input_sdi_of text = if is_any text then Ok None else one_sdi (sdi_of text)

-- of an output: one SDI, 0 where the cell is empty
abbrev pub output_sdi_of : List ℕ → Result ℕ CellFault
output_sdi_of text = if is_empty text then Ok 0 else sdi_of text
