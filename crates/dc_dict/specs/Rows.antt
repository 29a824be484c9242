-- A dictionary as the list of its rows, in the order in which they were inserted.
use Rattle.std.specs.Prelude.{◌≡◌, ℕ, Bool, ◌==◌, ◌&&◌, ◌||◌, nat_lt, if◌then◌else◌, List, find, is_some, Option, Some, None, slice_get, All}
use Rattle.dc_dict.specs.declared.fault.DictFault.{DictFault}
use Rattle.dc_dict.specs.declared.fault.DictFault.TheVariants.{Doubled, MinOverMax, Zero}
use Rattle.dc_dict.specs.declared.parameter.Parameter.{Parameter}

-- whether a row is that of a label and an equipment code
abbrev pub is_row_of : (label equipment : ℕ) → Parameter → Bool
is_row_of label equipment row = label == row.label && equipment == row.equipment

-- the row of a label and an equipment code
abbrev pub row_of : List Parameter → (label equipment : ℕ) → Option Parameter
row_of rows label equipment = find (is_row_of label equipment) rows

-- why a row is refused: the first of these that applies
unfoldable pub refusal_of : List Parameter → Parameter → Option DictFault
refusal_of rows row =
    if row.min_us == 0 || row.max_us == 0 then Some Zero
    else if nat_lt row.max_us row.min_us then Some MinOverMax
    else if is_some (row_of rows row.label row.equipment) then Some Doubled
    else None

-- no two rows have one label and equipment code
abbrev pub AreUnique : List Parameter → Type 0
AreUnique rows = (i j : ℕ) (a b : Parameter) → slice_get rows i ≡ Some a → slice_get rows j ≡ Some b → a.label ≡ b.label → a.equipment ≡ b.equipment → i ≡ j

-- each row stands under its own label and equipment code
abbrev pub AreKeyed : List ((ℕ × ℕ) × Parameter) → Type 0
AreKeyed entries = All (λ e. (e.0.0 ≡ e.1.label) × (e.0.1 ≡ e.1.equipment)) entries
