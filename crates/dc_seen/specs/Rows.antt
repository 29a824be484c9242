-- What one line says, by its fields, where a row is wanted.
use Rattle.std.specs.Prelude.{ℕ, ◌+◌, if◌then◌else◌, Option, Some, None, option_map, option_and_then, List, Result, Ok, Err}
use Rattle.dc_observe.specs.declared.labels.LabelNumbers.{LabelNumbers}
use Rattle.dc_seen.specs.Kinds.{field, is_word}
use Rattle.dc_seen.specs.Numbers.{is_decimal, maybe_number_of, number_of}
use Rattle.dc_seen.specs.declared.fault.SeenRule.{SeenRule}
use Rattle.dc_seen.specs.declared.fault.SeenRule.TheVariants.{NotNext, NumberWrong}
use Rattle.dc_seen.specs.declared.kind.Kind.{Kind}
use Rattle.dc_seen.specs.declared.kind.Kind.TheVariants.{Input, Output, Label}
use Rattle.dc_seen.specs.declared.rows.InputNumbers.{InputNumbers}
use Rattle.dc_seen.specs.declared.rows.OutputNumbers.{OutputNumbers}

-- ---- a number beside its bound

-- the number of a field, where the bound stands two fields behind it
abbrev pub number_beside : List (List ℕ) → (k bound : ℕ) → Option ℕ
number_beside fields k bound = if is_decimal (field fields (k + 2)) bound then number_of (field fields k) else None

-- the same, where a dash may stand for no number
abbrev pub maybe_beside : List (List ℕ) → (k bound : ℕ) → Option (Option ℕ)
maybe_beside fields k bound = if is_decimal (field fields (k + 2)) bound then maybe_number_of (field fields k) else None

-- ---- the numbers of the fields of each kind

abbrev pub seen_input : (backlog wait : ℕ) → InputNumbers
seen_input backlog wait = record { backlog = backlog; wait = wait }

abbrev pub seen_output : (late : ℕ) → OutputNumbers
seen_output late = record { late = late }

abbrev pub seen_label : (sent fallback : ℕ) → (age least : Option ℕ) → (greatest : ℕ) → LabelNumbers
seen_label sent fallback age least greatest = record { sent = sent; fallback = fallback; age = age; least = least; greatest = greatest }

-- those of an input, beside its backlog and its delay
abbrev pub input_numbers : (most delay : ℕ) → List (List ℕ) → Option InputNumbers
input_numbers most delay fields = option_and_then (λ backlog. option_map (λ wait. seen_input backlog wait) (number_beside fields 7 delay)) (number_beside fields 3 most)

-- that of an output, beside its delay
abbrev pub output_numbers : (delay : ℕ) → List (List ℕ) → Option OutputNumbers
output_numbers delay fields = option_map (λ late. seen_output late) (number_beside fields 3 delay)

-- those of a label behind how often it was sent, beside its age, its minimum and its maximum
abbrev pub label_rest : (sent fallback age minimum maximum : ℕ) → List (List ℕ) → Option LabelNumbers
label_rest sent fallback age minimum maximum fields =
    option_and_then (λ oldest. option_and_then (λ least. option_map (λ greatest. seen_label sent fallback oldest least greatest) (number_beside fields 15 maximum)) (maybe_beside fields 11 minimum)) (maybe_beside fields 7 age)

abbrev pub label_numbers : (age minimum maximum : ℕ) → List (List ℕ) → Option LabelNumbers
label_numbers age minimum maximum fields =
    option_and_then (λ sent. option_and_then (λ fallback. label_rest sent fallback age minimum maximum fields) (number_of (field fields 5))) (number_of (field fields 3))

-- ---- what a line says of the row that is wanted

-- numbers, or that one is wrong
abbrev pub or_wrong : {X : Type 0} → Option X → Result X SeenRule
or_wrong None = Err NumberWrong
or_wrong (Some x) = Ok x

-- numbers of the row of this name, where the line names it
abbrev pub named : {X : Type 0} → List ℕ → List (List ℕ) → Option X → Result X SeenRule
named name fields numbers = if is_word fields 1 name then or_wrong numbers else Err NotNext

-- what a line says of an input, where it says this if it is of that kind; of an output; of a label
abbrev pub as_input : {X : Type 0} → Result Kind SeenRule → Result X SeenRule → Result X SeenRule
as_input (Ok Input) said = said
as_input (Ok Output) said = Err NotNext
as_input (Ok Label) said = Err NotNext
as_input (Err rule) said = Err rule

abbrev pub as_output : {X : Type 0} → Result Kind SeenRule → Result X SeenRule → Result X SeenRule
as_output (Ok Input) said = Err NotNext
as_output (Ok Output) said = said
as_output (Ok Label) said = Err NotNext
as_output (Err rule) said = Err rule

abbrev pub as_label : {X : Type 0} → Result Kind SeenRule → Result X SeenRule → Result X SeenRule
as_label (Ok Input) said = Err NotNext
as_label (Ok Output) said = Err NotNext
as_label (Ok Label) said = said
as_label (Err rule) said = Err rule
