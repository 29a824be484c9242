-- Cells that hold names.
use Rattle.std.specs.Prelude.{ℕ, ◌==◌, ◌||◌, Bool, if◌then◌else◌, Option, Some, None, option_map, option_and_then, List, [], ◌∷◌, ◌++◌, length, Result, Ok, Err}
use Rattle.dc_document.specs.Names.{name_of}
use Rattle.dc_cell.specs.declared.fault.CellFault.{CellFault}
use Rattle.dc_cell.specs.declared.fault.CellFault.TheVariants.{NotName}

-- what is there, or the fault
abbrev pub named : Option (List ℕ) → Result (List ℕ) CellFault
named None = Err NotName
named (Some name) = Ok name

-- the name that a cell holds
abbrev pub name_cell_of : List ℕ → Result (List ℕ) CellFault
name_cell_of text = named (name_of text)

-- a name that may be left out
abbrev pub some_name : Option (List ℕ) → Result (Option (List ℕ)) CellFault
some_name None = Err NotName
some_name (Some name) = Ok (Some name)

-- no name where the cell is empty
abbrev pub name_if_any_of : List ℕ → Result (Option (List ℕ)) CellFault
name_if_any_of text = if length text == 0 then Ok None else some_name (name_of text)

-- what may stand between two names of a cell: space, tab, line ends, `;`, `,`, `|`, `/`, `+`
abbrev pub parts_names : ℕ → Bool
parts_names c = c == 32 || c == 9 || c == 10 || c == 12 || c == 13 || c == 59 || c == 44 || c == 124 || c == 47 || c == 43

-- the names, and one more where there are letters of one
abbrev pub with_part : (names : List (List ℕ)) (part : List ℕ) → Option (List (List ℕ))
with_part names part = if length part == 0 then Some names else option_map (λ name. names ++ name ∷ []) (name_of part)

-- the names of a text behind these names and the first letters of the next one, where each part of the text is a name
unfoldable pub names_behind : (names : List (List ℕ)) (part text : List ℕ) → Option (List (List ℕ))
names_behind names part [] = with_part names part
names_behind names part (c ∷ cs) =
    if parts_names c then option_and_then (λ more. names_behind more [] cs) (with_part names part)
    else names_behind names (part ++ c ∷ []) cs
