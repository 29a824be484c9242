-- The numbers of names.
use Rattle.std.proofs.Common.{◌≡◌, ℕ, ◌<◌, Bool, List, [], length, refl, sym, subst, Option, Some, None, option_and_then, IfSome}
use Rattle.std.specs.Prelude.{position}
use Rattle.std.specs.Str.{bytes_eq}
use Rattle.std.proofs.lemmas.List.Quantifiers.{position-Some}
use Rattle.dc_document.specs.Names.{name_of}
use Rattle.dc_event.specs.TraceText.{number_named}

-- a place that was found is there
found_there : {X : Type 0} (p : X → Bool) (xs : List X) (d : X) (found : Option ℕ) → position p xs ≡ found → IfSome found (λ i. i < length xs)
found_there p xs d None is = tt
found_there p xs d (Some i) is = (position-Some p xs i d is).0

looked_there : (names : List (List ℕ)) (name : Option (List ℕ)) → IfSome (option_and_then (λ name. position (bytes_eq name) names) name) (λ bus. bus < length names)
looked_there names None = tt
looked_there names (Some name) = found_there (bytes_eq name) names [] (position (bytes_eq name) names) refl

-- a number that a name has is one of theirs
pub named_there : (names : List (List ℕ)) (text : List ℕ) (bus : Option ℕ) → bus ≡ number_named names text → IfSome bus (λ bus. bus < length names)
named_there names text bus is = subst (λ (o : Option ℕ). IfSome o (λ bus. bus < length names)) (sym is) (looked_there names (name_of text))
