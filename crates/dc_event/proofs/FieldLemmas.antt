-- Lemmas on the fields of a line.
use Rattle.std.proofs.Common.{◌≡◌, ℕ, ◌==◌, Bool, if◌then◌else◌, List, [], ◌∷◌, ◌++◌, refl, sym, true, false}
use Rattle.dc_event.specs.TraceText.{fields_of, onto_field}

-- bytes in front of the first field
abbrev pub onto_first : List ℕ → List (List ℕ) → List (List ℕ)
onto_first front [] = front ∷ []
onto_first front (f ∷ fs) = (front ++ f) ∷ fs

first_of_two : (b : Bool) (c : ℕ) (fs : List (List ℕ)) → onto_first [] (if b then [] ∷ fs else onto_field c fs) ≡ (if b then [] ∷ fs else onto_field c fs)
first_of_two true c fs = refl
first_of_two false c [] = refl
first_of_two false c (f ∷ fs) = refl

-- no bytes in front
pub fields_none : (text : List ℕ) → fields_of text ≡ onto_first [] (fields_of text)
fields_none [] = refl
fields_none (c ∷ cs) = sym (first_of_two (c == 32) c (fields_of cs))
