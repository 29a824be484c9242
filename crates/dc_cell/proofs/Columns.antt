-- What is asked of each column of a sheet in turn, as a list says it and as it is written out.
use Rattle.std.proofs.Common.{◌≡◌, ◌||◌, Bool, true, false, List, [], ◌∷◌, fold, refl}
use Rattle.std.specs.List.{list_any}
use Rattle.dc_cell.specs.Strays.{is_any_of_inputs, is_any_of_outputs}
use Rattle.dc_cell.specs.declared.titles.Column.{Column}
use Rattle.dc_cell.specs.declared.titles.TheConstants.{INPUT_COLUMNS, OUTPUT_COLUMNS}

-- one after another from the left
from_left : {X : Type 0} (says : X → Bool) (before : Bool) (xs : List X) → (before || list_any says xs) ≡ fold (λ b x. b || says x) before xs
from_left says true [] = refl
from_left says false [] = refl
from_left says true (x ∷ xs) = from_left says true xs
from_left says false (x ∷ xs) = from_left says (says x) xs

pub any_of_inputs : (says : Column → Bool) → list_any says INPUT_COLUMNS ≡ is_any_of_inputs says
any_of_inputs says = from_left says false INPUT_COLUMNS

pub any_of_outputs : (says : Column → Bool) → list_any says OUTPUT_COLUMNS ≡ is_any_of_outputs says
any_of_outputs says = from_left says false OUTPUT_COLUMNS
