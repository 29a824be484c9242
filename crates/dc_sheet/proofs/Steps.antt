-- Records by their places, and rows by records.
use Rattle.std.proofs.Common.{◌≡◌, ℕ, suc, zero, ◌+◌, ◌<◌, ◌&&◌, Bool, true, false, List, [], ◌∷◌, ◌++◌, length, map, get_or, drop, refl, sym, ap, ◌∙◌, arith, add-one, Option, Some, Result, Ok, Err, OnOk, subst, MatchBool, if◌then◌else◌, option_and_then, length-append}
use Rattle.std.specs.Result.{is_ok}
use Rattle.std.specs.List.{list_all}
use Rattle.std.proofs.lemmas.List.{map-append}
use Rattle.csv.specs.Records.{Row, fields_of, field_at, trimmed}
use Rattle.dc_cell.specs.declared.rows.InputRow.{InputRow}
use Rattle.dc_cell.specs.declared.rows.OutputRow.{OutputRow}
use Rattle.dc_cell.specs.Names.{names_behind}
use Rattle.dc_sheet.specs.Places.{cell_at}
use Rattle.dc_sheet.specs.Sheets.{record_at, is_empty_cell, sources_before, AddsSources, AddsInput, AddsOutput, InputsBefore, OutputsBefore}
use Rattle.dc_sheet.specs.declared.places.InputPlaces.{InputPlaces}
use Rattle.dc_sheet.specs.declared.places.OutputPlaces.{OutputPlaces}

-- one more record, with its cells trimmed
pub pushed : (rows new : List Row) (one : Row) (raw : List (List (List ℕ))) (fields : List (List ℕ)) → new ≡ rows ++ one ∷ [] → map fields_of rows ≡ map (map trimmed) raw
    → fields_of one ≡ map trimmed fields → map fields_of new ≡ map (map trimmed) (raw ++ fields ∷ [])
pushed rows new one raw fields is same here =
    rw (is, map-append fields_of rows (one ∷ []), map-append (map trimmed) raw (fields ∷ []), same, here) refl

-- the fields of the record at a place
pub record_at-here : (records : List Row) (k : ℕ) (one : Row) → k < length records → one ≡ get_or records k one → record_at (map fields_of records) k ≡ fields_of one
record_at-here [] k one there is = absurd (omega arith)
record_at-here (first ∷ more) zero one there is = ap fields_of (sym is)
record_at-here (first ∷ more) (suc k) one there is = record_at-here more k one (omega arith) is

-- the cells from a place on are the one there and those behind it
pub empty-here : (cells : List (List ℕ)) (k : ℕ) → k < length cells → list_all is_empty_cell (drop k cells) ≡ (is_empty_cell (cell_at cells (Some k)) && list_all is_empty_cell (drop (suc k) cells))
unfolding field_at
empty-here [] k there = absurd (omega arith)
empty-here (first ∷ more) zero there = refl
empty-here (first ∷ more) (suc k) there = empty-here more k (omega arith)

-- one more record of the inputs
pub inputs-more : (commas : Bool) (columns : ℕ) (p : InputPlaces) (records : List (List (List ℕ))) (k : ℕ) (before rows : List InputRow)
    → InputsBefore commas columns p records k before → AddsInput commas columns p (k + 2) (record_at records k) before rows → InputsBefore commas columns p records (k + 1) rows
unfolding InputsBefore
inputs-more commas columns p records k before rows so adds = rw add-one (before, so, adds)

-- one more record of the outputs
pub outputs-more : (commas : Bool) (columns : ℕ) (flags : List Bool) (p : OutputPlaces) (records : List (List (List ℕ))) (k : ℕ) (before rows : List OutputRow)
    → OutputsBefore commas columns flags p records k before → AddsOutput commas columns flags p (k + 2) (record_at records k) before rows → OutputsBefore commas columns flags p records (k + 1) rows
unfolding OutputsBefore
outputs-more commas columns flags p records k before rows so adds = rw add-one (before, so, adds)

-- what holds where a call ends well
pub held : {T E : Type 0} (P : Type 0) (r : Result T E) → is_ok r ≡ true → OnOk r P → P
held P (Ok value) well holds = holds
held P (Err fault) well holds = absurd (cc)

-- a cell that is not empty, and one that is
pub not-empty-here : (cells : List (List ℕ)) (k first : ℕ) (text : List ℕ) → k < length cells → text ≡ cell_at cells (Some k) → is_empty_cell text ≡ false
    → list_all is_empty_cell (drop k cells) ≡ list_all is_empty_cell (drop first cells) → false ≡ list_all is_empty_cell (drop first cells)
not-empty-here cells k first text there is empty so =
    let here : is_empty_cell (cell_at cells (Some k)) ≡ false = sym (ap is_empty_cell is) ∙ empty in
    let none : (is_empty_cell (cell_at cells (Some k)) && list_all is_empty_cell (drop (suc k) cells)) ≡ false = ap (λ (b : Bool). b && list_all is_empty_cell (drop (suc k) cells)) here in
    sym (sym so ∙ empty-here cells k there ∙ none)

pub empty-more : (cells : List (List ℕ)) (k first : ℕ) (text : List ℕ) → k < length cells → text ≡ cell_at cells (Some k) → is_empty_cell text ≡ true
    → list_all is_empty_cell (drop k cells) ≡ list_all is_empty_cell (drop first cells) → list_all is_empty_cell (drop (k + 1) cells) ≡ list_all is_empty_cell (drop first cells)
empty-more cells k first text there is empty so =
    let here : is_empty_cell (cell_at cells (Some k)) ≡ true = sym (ap is_empty_cell is) ∙ empty in
    let all : (is_empty_cell (cell_at cells (Some k)) && list_all is_empty_cell (drop (suc k) cells)) ≡ list_all is_empty_cell (drop (suc k) cells) = ap (λ (b : Bool). b && list_all is_empty_cell (drop (suc k) cells)) here in
    rw add-one (sym (empty-here cells k there ∙ all) ∙ so)

-- one more record of the inputs, by its number and its cells
pub inputs-add : (commas : Bool) (columns : ℕ) (p : InputPlaces) (records : List (List (List ℕ))) (k number : ℕ) (cells : List (List ℕ)) (before rows : List InputRow)
    → number ≡ k + 2 → record_at records k ≡ cells → InputsBefore commas columns p records k before → AddsInput commas columns p number cells before rows
    → InputsBefore commas columns p records (k + 1) rows
inputs-add commas columns p records k number cells before rows same here so adds =
    let P : ℕ → Type 0 = λ n. AddsInput commas columns p n cells before rows in
    let Q : List (List ℕ) → Type 0 = λ cs. AddsInput commas columns p (k + 2) cs before rows in
    inputs-more commas columns p records k before rows so (subst Q (sym here) (subst P same adds))

pub outputs-add : (commas : Bool) (columns : ℕ) (flags : List Bool) (p : OutputPlaces) (records : List (List (List ℕ))) (k number : ℕ) (cells : List (List ℕ)) (before rows : List OutputRow)
    → number ≡ k + 2 → record_at records k ≡ cells → OutputsBefore commas columns flags p records k before → AddsOutput commas columns flags p number cells before rows
    → OutputsBefore commas columns flags p records (k + 1) rows
outputs-add commas columns flags p records k number cells before rows same here so adds =
    let P : ℕ → Type 0 = λ n. AddsOutput commas columns flags p n cells before rows in
    let Q : List (List ℕ) → Type 0 = λ cs. AddsOutput commas columns flags p (k + 2) cs before rows in
    outputs-more commas columns flags p records k before rows so (subst Q (sym here) (subst P same adds))

-- one more cell of sources
sources-cases : (b : Bool) (f : List (List ℕ) → Option (List (List ℕ))) (so : Option (List (List ℕ))) (before names : List (List ℕ)) → so ≡ Some before
    → MatchBool b (f before ≡ Some names) (names ≡ before) → (if b then option_and_then f so else so) ≡ Some names
sources-cases true f so before names is adds = ap (option_and_then f) is ∙ adds
sources-cases false f so before names is same = is ∙ ap Some (sym same)

pub sources-more : (flags : List Bool) (cells : List (List ℕ)) (k : ℕ) (before names : List (List ℕ)) → sources_before flags cells k ≡ Some before
    → AddsSources flags cells k before names → sources_before flags cells (k + 1) ≡ Some names
unfolding sources_before
sources-more flags cells k before names so adds =
    rw add-one (sources-cases (get_or flags k false) (λ more. names_behind more [] (cell_at cells (Some k))) (sources_before flags cells k) before names so adds)

-- one more flag
appended : (flags : List Bool) (flag : Bool) (f : ℕ → Bool) → ((j : ℕ) → j < length flags → get_or flags j false ≡ f j) → flag ≡ f (length flags) → (j : ℕ) → j < suc (length flags)
    → get_or (flags ++ flag ∷ []) j false ≡ f j
appended [] flag f so is zero lt = is
appended [] flag f so is (suc j) lt = absurd (omega (arith, lt))
appended (x ∷ xs) flag f so is zero lt = so zero (omega arith)
appended (x ∷ xs) flag f so is (suc j) lt = appended xs flag (λ i. f (suc i)) (λ i h. so (suc i) (omega (arith, h))) is j (omega (arith, lt))

pub flags-more : (f : ℕ → Bool) (flags new : List Bool) (flag : Bool) (k : ℕ) → new ≡ flags ++ flag ∷ [] → length flags ≡ k → flag ≡ f k
    → ((j : ℕ) → j < k → get_or flags j false ≡ f j) → (length new ≡ k + 1) × ((j : ℕ) → j < k + 1 → get_or new j false ≡ f j)
flags-more f flags new flag k is long here so = (
  omega (arith, ap length is ∙ length-append flags (flag ∷ []), long),
  λ j h. ap (λ (xs : List Bool). get_or xs j false) is ∙ appended flags flag f (λ i below. so i (omega (arith, below, long))) (here ∙ ap f (sym long)) j (omega (arith, h, long)),
)

-- what holds below a number and there holds up to it
last-or : (P : ℕ → Type 0) (k : ℕ) → ((i : ℕ) → i < k → P i) → P k → (j : ℕ) → j < k + 1 → P j
last-or P zero so here zero lt = here
last-or P zero so here (suc j) lt = absurd (omega (arith, lt))
last-or P (suc k) so here zero lt = so zero (omega arith)
last-or P (suc k) so here (suc j) lt = last-or (λ i. P (suc i)) k (λ i h. so (suc i) (omega (arith, h))) here j (omega (arith, lt))

-- one more title, which is clear too
pub clear-more : (f : ℕ → Bool) (k : ℕ) (before here next : Bool) → next ≡ (before && here) → here ≡ f k
    → (before ≡ true → (j : ℕ) → j < k → f j ≡ true) → next ≡ true → (j : ℕ) → j < k + 1 → f j ≡ true
clear-more f k true true next is at so says = last-or (λ i. f i ≡ true) k (so refl) (sym at)
clear-more f k true false next is at so says = absurd (cc)
clear-more f k false here next is at so says = absurd (cc)
