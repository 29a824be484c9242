-- The rows of a whole text.
use Rattle.std.proofs.Common.{◌≡◌, ℕ, ◌==◌, ◌++◌, ◌∷◌, [], Bool, true, false, List, Result, Ok, Err, IfOk, length, map, subst, sym, MatchBool}
use Rattle.std.proofs.lemmas.List.{length-map}
use Rattle.csv.specs.Records.{Row, fields_of}
use Rattle.dc_cell.specs.declared.rows.Inputs.{Inputs}
use Rattle.dc_cell.specs.declared.rows.Outputs.{Outputs}
use Rattle.dc_cell.specs.declared.rows.InputRow.{InputRow}
use Rattle.dc_cell.specs.declared.rows.OutputRow.{OutputRow}
use Rattle.dc_sheet.specs.declared.fault.Sheet.TheVariants as sheet
use Rattle.dc_sheet.specs.declared.places.InputPlaces.{InputPlaces}
use Rattle.dc_sheet.specs.declared.places.OutputPlaces.{OutputPlaces}
use Rattle.dc_sheet.specs.Places.{AreClear, AreInputPlaces, AreOutputPlaces}
use Rattle.dc_sheet.specs.Sheets.{AddsOutput, AreInputs, AreOutputs, AreSources, InputsBefore, IsOutputRow, OutputsBefore, SayInputs, SayOutputs, is_passed, is_within}
use Rattle.dc_sheet.specs.Texts.{IsSheetText, separator_of}

-- the second, where the test says no
matched : (b : Bool) (P Q : Type 0) → b ≡ false → Q → MatchBool b P Q
matched false P Q says holds = holds
matched true P Q says holds = absurd (cc)

-- the row of a record that is not passed over
pub adds-output : (commas : Bool) (columns : ℕ) (flags : List Bool) (p : OutputPlaces) (number : ℕ) (cells : List (List ℕ)) (before rows : List OutputRow) (row : OutputRow)
    → is_passed cells ≡ false → is_within columns cells ≡ true → IsOutputRow commas number flags p cells row → rows ≡ before ++ row ∷ []
    → AddsOutput commas columns flags p number cells before rows
adds-output commas columns flags p number cells before rows row passed within says adds =
    let P : Type 0 = rows ≡ before in
    let Q : Type 0 = (is_within columns cells ≡ true) × ((one : OutputRow) × IsOutputRow commas number flags p cells one × (rows ≡ before ++ one ∷ [])) in
    matched (is_passed cells) P Q passed (within, (row, says, adds))

-- the rows of the records behind a header are those of the sheet
pub say-inputs : (commas : Bool) (all lines : List Row) (header : Row) (columns : ℕ) (p : InputPlaces) (rows : List InputRow) → map fields_of all ≡ fields_of header ∷ map fields_of lines
    → AreClear sheet.Inputs (fields_of header) → AreInputPlaces (fields_of header) p → columns ≡ length (fields_of header) → InputsBefore commas columns p (map fields_of lines) (length lines) rows
    → SayInputs commas (map fields_of all) rows
say-inputs commas all lines header columns p rows begins clear stand wide say =
    let P : ℕ → Type 0 = λ n. InputsBefore commas n p (map fields_of lines) (length lines) rows in
    let Q : ℕ → Type 0 = λ n. InputsBefore commas (length (fields_of header)) p (map fields_of lines) n rows in
    record { header = fields_of header; records = map fields_of lines; places = p; begins = begins; clear = clear; stand = stand; say = subst Q (sym (length-map lines fields_of)) (subst P wide say) }

pub say-outputs : (commas : Bool) (all lines : List Row) (header : Row) (columns : ℕ) (flags : List Bool) (p : OutputPlaces) (rows : List OutputRow) → map fields_of all ≡ fields_of header ∷ map fields_of lines
    → AreClear sheet.Outputs (fields_of header) → AreOutputPlaces (fields_of header) p → AreSources (fields_of header) flags → columns ≡ length (fields_of header)
    → OutputsBefore commas columns flags p (map fields_of lines) (length lines) rows → SayOutputs commas (map fields_of all) rows
say-outputs commas all lines header columns flags p rows begins clear stand sources wide say =
    let P : ℕ → Type 0 = λ n. OutputsBefore commas n flags p (map fields_of lines) (length lines) rows in
    let Q : ℕ → Type 0 = λ n. OutputsBefore commas (length (fields_of header)) flags p (map fields_of lines) n rows in
    record { header = fields_of header; records = map fields_of lines; places = p; flags = flags; begins = begins; clear = clear; stand = stand; sources = sources; say = subst Q (sym (length-map lines fields_of)) (subst P wide say) }

pub are-inputs : {E : Type 0} (text : List ℕ) (separator : ℕ) (records all : List (List (List ℕ))) (found : Result Inputs E) → separator ≡ separator_of text → all ≡ records
    → IsSheetText (separator_of text) text records → IfOk found (λ i. SayInputs (separator == 44) all i.rows.items) → IfOk found (λ i. AreInputs text i.rows.items)
are-inputs text separator records all (Ok i) same alike read say =
    let P : ℕ → Type 0 = λ n. SayInputs (n == 44) all i.rows.items in
    let Q : List (List (List ℕ)) → Type 0 = λ xs. SayInputs (separator_of text == 44) xs i.rows.items in
    record { records = records; read = read; say = subst Q alike (subst P same say) }
are-inputs text separator records all (Err e) same alike read say = tt

pub are-outputs : {E : Type 0} (text : List ℕ) (separator : ℕ) (records all : List (List (List ℕ))) (found : Result Outputs E) → separator ≡ separator_of text → all ≡ records
    → IsSheetText (separator_of text) text records → IfOk found (λ o. SayOutputs (separator == 44) all o.rows.items) → IfOk found (λ o. AreOutputs text o.rows.items)
are-outputs text separator records all (Ok o) same alike read say =
    let P : ℕ → Type 0 = λ n. SayOutputs (n == 44) all o.rows.items in
    let Q : List (List (List ℕ)) → Type 0 = λ xs. SayOutputs (separator_of text == 44) xs o.rows.items in
    record { records = records; read = read; say = subst Q alike (subst P same say) }
are-outputs text separator records all (Err e) same alike read say = tt
