-- Lemmas on the fields of a line.
use Rattle.std.proofs.Common.{◌≡◌, ℕ, ◌==◌, Bool, if◌then◌else◌, List, [], ◌∷◌, ◌++◌, Err, refl, ap, ◌∙◌, sym, true, false}
use Rattle.dc_tables.specs.TableRows.{TableRows}
use Rattle.dc_event.specs.TraceText.{fields_of, onto_field}
use Rattle.dc_capture.specs.CaptureText.{fields_word, line_word}
use Rattle.dc_capture.specs.declared.fault.CaptureRule.TheVariants.{FieldCountWrong}

-- bytes in front of the first field
abbrev pub onto_first : List ℕ → List (List ℕ) → List (List ℕ)
onto_first front [] = front ∷ []
onto_first front (f ∷ fs) = (front ++ f) ∷ fs

first_of_two : (b : Bool) (c : ℕ) (fs : List (List ℕ)) → onto_first [] (if b then [] ∷ fs else onto_field c fs) ≡ (if b then [] ∷ fs else onto_field c fs)
first_of_two true c fs = refl
first_of_two false c [] = refl
first_of_two false c (f ∷ fs) = refl

-- no bytes in front
pub fields_none : (text : List ℕ) → fields_of text ≡ onto_first [] (fields_of text)
fields_none [] = refl
fields_none (c ∷ cs) = sym (first_of_two (c == 32) c (fields_of cs))

-- a text has a field
some_fields : (fields : List (List ℕ)) → Type 0
some_fields fields = (f : List ℕ) × (fs : List (List ℕ)) × (fields ≡ f ∷ fs)

onto_some : (b : Bool) (c : ℕ) (fs : List (List ℕ)) → some_fields (if b then [] ∷ fs else onto_field c fs)
unfolding some_fields
onto_some true c fs = ([], fs, refl)
onto_some false c [] = (c ∷ [], [], refl)
onto_some false c (f ∷ fs) = (c ∷ f, fs, refl)

has_field : (text : List ℕ) → some_fields (fields_of text)
unfolding some_fields onto_some
has_field [] = ([], [], refl)
has_field (c ∷ cs) = onto_some (c == 32) c (fields_of cs)

four_fields : (t : TableRows) (latest : ℕ) (a b c : List ℕ) (text : List ℕ) → fields_word t latest (a ∷ b ∷ c ∷ fields_of text) ≡ Err FieldCountWrong
unfolding some_fields
four_fields t latest a b c text = (let (f, fs, is) = has_field text in rw is refl)

-- a fourth field is too many
pub too_many : (t : TableRows) (latest : ℕ) (line a rest b more c text : List ℕ) → fields_of line ≡ a ∷ fields_of rest → fields_of rest ≡ b ∷ fields_of more → fields_of more ≡ c ∷ fields_of text
    → Err FieldCountWrong ≡ line_word t latest line
unfolding line_word
too_many t latest line a rest b more c text first second third =
    sym (ap (fields_word t latest) (first ∙ ap (λ fs. a ∷ fs) (second ∙ ap (λ fs. b ∷ fs) third)) ∙ four_fields t latest a b c text)
