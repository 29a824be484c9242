-- The JSON value of a certificate, row by row.
use Rattle.std.proofs.Common.{◌≡◌, ℕ, ◌+◌, ◌<◌, ◌≤◌, List, [], ◌∷◌, ◌++◌, length, get_or, map, take, false, refl, sym, ap, ◌∙◌, subst, arith, Vec, Global}
use Rattle.std.proofs.lemmas.List.{take_more, take_all, map-append}
use Rattle.std.proofs.lemmas.List.Elements.{All-push}
use Rattle.std.specs.Prelude.{All}
use Rattle.serde_json.specs.Data.{Data, array, depth, items_depth}
use Rattle.serde_json.specs.View.{view, items_of}
use Rattle.serde_json.specs.Written.{has_float, items_have_float, compact_text}
use Rattle.serde_json.specs.declared.value.Value.{Value, Array}
use Rattle.serde_json.proofs.Views.{view-Array}
use Rattle.dc_cert.specs.NamedRows.{NamedRows}
use Rattle.dc_cert.specs.Printing.{input_data, output_data, label_data, claims_data, claims_text}

-- ---- the loop over the rows

pub one_more_row : {R C : Type 0} (claim : R → C) (printed : C → Data) (old new : List Value) (v : Value) (rows : List R) (i : ℕ) (row : R)
    → map view old ≡ map printed (map claim (take i rows)) → new ≡ old ++ v ∷ [] → view v ≡ printed (claim row) → row ≡ get_or rows i row → i < length rows
    → map view new ≡ map printed (map claim (take (i + 1) rows))
one_more_row claim printed old new v rows i row before pushed is found below =
    let longer : take (i + 1) rows ≡ take i rows ++ row ∷ [] = take_more rows i row below ∙ ap (λ r. take i rows ++ r ∷ []) (sym found) in
    rw (pushed, map-append view old (v ∷ []), longer, map-append claim (take i rows) (row ∷ []), map-append printed (map claim (take i rows)) (claim row ∷ []), before, is) refl

pub one_more_fits : {R C : Type 0} (claim : R → C) (P : C → Type 0) (rows : List R) (i : ℕ) (row : R)
    → All P (map claim (take i rows)) → P (claim row) → row ≡ get_or rows i row → i < length rows → All P (map claim (take (i + 1) rows))
one_more_fits claim P rows i row before here found below =
    let longer : take (i + 1) rows ≡ take i rows ++ row ∷ [] = take_more rows i row below ∙ ap (λ r. take i rows ++ r ∷ []) (sym found) in
    rw (longer, map-append claim (take i rows) (row ∷ [])) (All-push P (map claim (take i rows)) (claim row) before here)

pub whole_array : {R C : Type 0} (claim : R → C) (printed : C → Data) (values : Vec Value Global) (rows : List R) (i : ℕ)
    → map view values.items ≡ map printed (map claim (take i rows)) → length rows ≤ i → view (Array values) ≡ array (items_of (map printed (map claim rows)))
whole_array claim printed values rows i same past =
    view-Array values ∙ ap (λ ds. array (items_of ds)) (same ∙ ap (λ rs. map printed (map claim rs)) (take_all i rows past))

pub all_fit : {R C : Type 0} (claim : R → C) (P : C → Type 0) (rows : List R) (i : ℕ) → All P (map claim (take i rows)) → length rows ≤ i → All P (map claim rows)
all_fit claim P rows i fit past = subst (λ rs. All P (map claim rs)) (take_all i rows past) fit

-- ---- the value of a certificate

no_floats : {C : Type 0} (printed : C → Data) → ((x : C) → has_float (printed x) ≡ false) → (xs : List C) → items_have_float (items_of (map printed xs)) ≡ false
no_floats printed each [] = refl
no_floats printed each (x ∷ xs) = rw (each x, no_floats printed each xs) refl

pub has_float-claims_data : (claims : NamedRows) → has_float (claims_data claims) ≡ false
has_float-claims_data claims =
    rw (no_floats input_data (λ x. refl) claims.inputs, no_floats label_data (λ x. refl) claims.labels, no_floats output_data (λ x. refl) claims.outputs) refl

shallow : {C : Type 0} (printed : C → Data) → ((x : C) → depth (printed x) ≡ 1) → (xs : List C) → items_depth (items_of (map printed xs)) ≤ 1
shallow printed each [] = omega arith
shallow printed each (x ∷ xs) = let rest = shallow printed each xs in let here = each x in omega arith

pub depth-claims_data : (claims : NamedRows) → depth (claims_data claims) ≤ 127
depth-claims_data claims =
    let inputs = shallow input_data (λ x. refl) claims.inputs in
    let labels = shallow label_data (λ x. refl) claims.labels in
    let outputs = shallow output_data (λ x. refl) claims.outputs in
    omega arith

-- what was printed, with its line feed
pub text_is : (claims : NamedRows) (d : Data) (old feed new : List ℕ) → d ≡ claims_data claims → (has_float d ≡ false → old ≡ compact_text d)
    → new ≡ old ++ feed → feed ≡ 10 ∷ [] → new ≡ claims_text claims
unfolding claims_text
text_is claims d old feed new is text more fed =
    let printed : old ≡ compact_text (claims_data claims) = text (ap has_float is ∙ has_float-claims_data claims) ∙ ap compact_text is in
    more ∙ rw (printed, fed) refl
