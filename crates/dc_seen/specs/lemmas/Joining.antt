-- What is said by one line after another.
use Rattle.std.proofs.Common.{◌≡◌, ℕ, List, [], ◌++◌, Result, Ok, Err, refl, sym, ap, ◌∙◌, append_assoc, append-nil}
use Rattle.dc_observe.specs.declared.labels.LabelNumbers.{LabelNumbers}
use Rattle.dc_seen.specs.Reading.{line_fault}
use Rattle.dc_seen.specs.Said.{SeenRows, at_line, followed, inputs_only, joined, labels_only, none_seen, outputs_only, rows_said, seen_all}
use Rattle.dc_seen.specs.declared.fault.SeenFault.{SeenFault}
use Rattle.dc_seen.specs.declared.fault.SeenRule.{SeenRule}
use Rattle.dc_seen.specs.declared.rows.InputNumbers.{InputNumbers}
use Rattle.dc_seen.specs.declared.rows.OutputNumbers.{OutputNumbers}

joined-assoc : (a b s : SeenRows) → joined a (joined b s) ≡ joined (joined a b) s
joined-assoc a b s = λ i. record {
  inputs = sym (append_assoc a.inputs b.inputs s.inputs) i;
  outputs = sym (append_assoc a.outputs b.outputs s.outputs) i;
  labels = sym (append_assoc a.labels b.labels s.labels) i;
}

pub followed-assoc : (a b : SeenRows) (r : Result SeenRows SeenFault) → followed (Ok a) (followed (Ok b) r) ≡ followed (Ok (joined a b)) r
followed-assoc a b (Ok s) = ap (λ x. Ok x) (joined-assoc a b s)
followed-assoc a b (Err fault) = refl

-- nothing first
pub followed-none : (r : Result SeenRows SeenFault) → r ≡ followed (Ok none_seen) r
followed-none (Ok s) = refl
followed-none (Err fault) = refl

-- some, then more
pub said_on : (start now next : Result SeenRows SeenFault) (a b : SeenRows) → start ≡ followed (Ok a) now → now ≡ followed (Ok b) next → start ≡ followed (Ok (joined a b)) next
said_on start now next a b before here = before ∙ ap (followed (Ok a)) here ∙ followed-assoc a b next

-- some, then a fault
pub said_fault : (start now : Result SeenRows SeenFault) (a : SeenRows) (fault : SeenFault) → start ≡ followed (Ok a) now → now ≡ Err fault → start ≡ Err fault
said_fault start now a fault before here = before ∙ ap (followed (Ok a)) here

-- ---- a line

-- it says numbers
pub row_said : {X : Type 0} (start next : Result SeenRows SeenFault) (k : ℕ) (said : Result SeenRows SeenRule) (rows : X → SeenRows) (row : Result X SeenRule) (x : X)
    → start ≡ followed (at_line k said) next → said ≡ rows_said rows row → row ≡ Ok x → start ≡ followed (Ok (rows x)) next
row_said start next k said rows row x whole is well =
    whole ∙ ap (λ s. followed (at_line k s) next) (is ∙ ap (rows_said rows) well)

-- it has a fault
pub row_refused : {X : Type 0} (start next : Result SeenRows SeenFault) (k : ℕ) (said : Result SeenRows SeenRule) (rows : X → SeenRows) (row : Result X SeenRule) (rule : SeenRule)
    → start ≡ followed (at_line k said) next → said ≡ rows_said rows row → row ≡ Err rule → start ≡ Err (line_fault k rule)
row_refused start next k said rows row rule whole is bad =
    whole ∙ ap (λ s. followed (at_line k s) next) (is ∙ ap (rows_said rows) bad)

-- one that is not wanted
pub surplus_refused : (start next : Result SeenRows SeenFault) (k : ℕ) (said : Result SeenRows SeenRule) (rule : SeenRule) → start ≡ followed (at_line k said) next → said ≡ Err rule → start ≡ Err (line_fault k rule)
surplus_refused start next k said rule whole is = whole ∙ ap (λ s. followed (at_line k s) next) is

-- one that says nothing
pub nothing_more : (start next : Result SeenRows SeenFault) (k : ℕ) (said : Result SeenRows SeenRule) → start ≡ followed (at_line k said) next → said ≡ Ok none_seen → start ≡ next
nothing_more start next k said whole is = whole ∙ ap (λ s. followed (at_line k s) next) is ∙ sym (followed-none next)

-- ---- all lines

-- numbers of inputs, of outputs and of labels together
three_joined : (inputs : List InputNumbers) (outputs : List OutputNumbers) (labels : List LabelNumbers)
    → joined (joined (joined (inputs_only inputs) (outputs_only outputs)) (labels_only labels)) none_seen ≡ seen_all inputs outputs labels
three_joined inputs outputs labels = λ i. record {
  inputs = (append-nil ((inputs ++ []) ++ []) ∙ append-nil (inputs ++ []) ∙ append-nil inputs) i;
  outputs = (append-nil (outputs ++ []) ∙ append-nil outputs) i;
  labels = append-nil labels i;
}

-- inputs, outputs, labels, and then nothing
pub all_said : (start second third fourth : Result SeenRows SeenFault) (inputs : List InputNumbers) (outputs : List OutputNumbers) (labels : List LabelNumbers)
    → start ≡ followed (Ok (inputs_only inputs)) second → second ≡ followed (Ok (outputs_only outputs)) third → third ≡ followed (Ok (labels_only labels)) fourth → fourth ≡ Ok none_seen
    → start ≡ Ok (seen_all inputs outputs labels)
all_said start second third fourth inputs outputs labels p q r end =
    let two = joined (inputs_only inputs) (outputs_only outputs) in
    said_on start third fourth two (labels_only labels) (said_on start second third (inputs_only inputs) (outputs_only outputs) p q) r
    ∙ ap (followed (Ok (joined two (labels_only labels)))) end
    ∙ ap (λ x. Ok x) (three_joined inputs outputs labels)

-- a fault behind the inputs, behind the outputs, behind the labels
pub second_fault : (start second : Result SeenRows SeenFault) (a : SeenRows) (fault : SeenFault) → start ≡ followed (Ok a) second → second ≡ Err fault → start ≡ Err fault
second_fault start second a fault p bad = said_fault start second a fault p bad

pub third_fault : (start second third : Result SeenRows SeenFault) (a b : SeenRows) (fault : SeenFault) → start ≡ followed (Ok a) second → second ≡ followed (Ok b) third → third ≡ Err fault
    → start ≡ Err fault
third_fault start second third a b fault p q bad = said_fault start second a fault p (said_fault second third b fault q bad)

pub fourth_fault : (start second third fourth : Result SeenRows SeenFault) (a b l : SeenRows) (fault : SeenFault) → start ≡ followed (Ok a) second → second ≡ followed (Ok b) third
    → third ≡ followed (Ok l) fourth → fourth ≡ Err fault → start ≡ Err fault
fourth_fault start second third fourth a b l fault p q r bad = third_fault start second third a b fault p q (said_fault third fourth l fault r bad)
