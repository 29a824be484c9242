-- Streams that overlap, found by what the ones before declare.
use Rattle.std.proofs.Common.{◌≡◌, ℕ, Bool, true, false, ◌||◌, ◌&&◌, ◌==◌, nat_eq, Option, Some, None, List, [], ◌∷◌, ◌++◌, map, refl, sym, ap, ◌∙◌, arith, inl, inr}
use Rattle.std.specs.List.{list_any}
use Rattle.std.specs.Option.{option_eq}
use Rattle.std.proofs.lemmas.List.Folds.{list_any-append}
use Rattle.std.proofs.lemmas.Bool.Decides.{nat_tests}
use Rattle.indexmap.specs.IndexSet.{insert_key}
use Rattle.dc_rules.specs.Rules.{overlap}
use Rattle.dc_tables.specs.Sdis.{sdis_meet}
use Rattle.dc_rules.specs.lemmas.Owners.{bool_cases}
use Rattle.dc_rules.specs.Declarations.{place_of, declaring, same_place, same_declared, overlaps_sdi, overlaps_known}
use Rattle.dc_document.specs.declared.parts.StreamPart.{StreamPart}
use Rattle.dc_rules.specs.declared.keys.BusLabel.{BusLabel}
use Rattle.dc_rules.specs.declared.keys.Declared.{Declared}

-- ---- keys that are looked up

-- a set of keys has those of the items
abbrev pub Knows : {K A : Type 0} → (K → K → Bool) → (A → K) → List A → List K → Type 0
Knows {K} eq key past keys = (q : K) → list_any (eq q) keys ≡ list_any (eq q) (map key past)

or_true : (b : Bool) → (b || true) ≡ true
or_true true = refl
or_true false = refl

or_false : (b : Bool) → (b || false) ≡ b
or_false true = refl
or_false false = refl

like : {K : Type 0} (p q : K → Bool) (xs : List K) → ((x : K) → p x ≡ q x) → list_any p xs ≡ list_any q xs
like p q [] h = refl
like p q (x ∷ xs) h = rw (h x, like p q xs h) refl

map_push : {K A : Type 0} (key : A → K) (p : K → Bool) (past : List A) (x : A) → list_any p (map key (past ++ (x ∷ []))) ≡ (list_any p (map key past) || p (key x))
map_push key p [] x = or_false (p (key x))
map_push key p (y ∷ ys) x =
    elim (bool_cases (p (key y))) [
      | inl t ↦ rw t refl
      | inr f ↦ rw (f, map_push key p ys x) refl
    ]

-- one more key
knows_one : {K A : Type 0} (eq : K → K → Bool) (key : A → K) (past : List A) (keys : List K) (x : A)
    → ((q y z : K) → eq q y ≡ true → eq q z ≡ eq y z) → Knows eq key past keys → Knows eq key (past ++ (x ∷ [])) (insert_key eq keys (key x))
knows_one eq key past keys x congr h q =
    elim (bool_cases (list_any (eq (key x)) keys)) [
      | inl there ↦ elim (bool_cases (eq q (key x))) [
        | inl same ↦ rw there (like (eq q) (eq (key x)) keys (λ z. congr q (key x) z same) ∙ there ∙ sym (map_push key (eq q) past x ∙ rw same (or_true (list_any (eq q) (map key past)))))
        | inr other ↦ rw there (h q ∙ sym (map_push key (eq q) past x ∙ rw other (or_false (list_any (eq q) (map key past)))))
      ]
      | inr absent ↦ rw absent (list_any-append (eq q) keys (key x ∷ []) ∙ ap (λ b. list_any (eq q) keys || b) (or_false (eq q (key x))) ∙ ap (λ b. b || eq q (key x)) (h q) ∙ sym (map_push key (eq q) past x))
    ]

abbrev pub own_key : StreamPart → Declared
own_key s = declaring s s.sdi

places_alike : (q y z : BusLabel) → same_place q y ≡ true → same_place q z ≡ same_place y z
places_alike q y z h = grind (arith, nat_tests)

abbrev pub KnowsAll : List StreamPart → List BusLabel → List Declared → Type 0
KnowsAll past labels exact = Knows same_place place_of past labels × Knows same_declared own_key past exact

declared_alike : (q y z : Declared) → same_declared q y ≡ true → same_declared q z ≡ same_declared y z
declared_alike q y z h = grind (arith, nat_tests)

pub knows_none : KnowsAll [] [] []
knows_none = (λ q. refl, λ q. refl)

-- one more stream
pub known_more : (past : List StreamPart) (labels : List BusLabel) (exact : List Declared) (s : StreamPart) → KnowsAll past labels exact
    → KnowsAll (past ++ (s ∷ [])) (insert_key same_place labels (place_of s)) (insert_key same_declared exact (declaring s s.sdi))
known_more past labels exact s h = (knows_one same_place place_of past labels s places_alike h.0, knows_one same_declared own_key past exact s declared_alike h.1)

-- an overlap with one of those before is found by what they declare
or_swap : (a b c d : Bool) → ((a || b) || (c || d)) ≡ ((a || c) || (b || d))
or_swap true b c d = refl
or_swap false true true d = refl
or_swap false true false d = refl
or_swap false false c d = refl

any_of : (s : StreamPart) (past : List StreamPart) → s.sdi ≡ None → list_any (same_place (place_of s)) (map place_of past) ≡ list_any (overlap s) past
any_of s [] h = refl
any_of s (t ∷ ts) h = rw (h, any_of s ts h) (ap (λ b. b || list_any (overlap s) ts) (sym (and_true ((s.bus == t.bus) && (s.label == t.label)))))
  where
    and_true : (b : Bool) → (b && true) ≡ b
    and_true true = refl
    and_true false = refl

one_of : (bus label : Bool) (a : ℕ) (x : Option ℕ) → ((bus && (label && option_eq nat_eq (Some a) x)) || (bus && (label && option_eq nat_eq None x))) ≡ ((bus && label) && sdis_meet (Some a) x)
one_of false label a x = refl
one_of true false a x = refl
one_of true true a None = refl
one_of true true a (Some b) = or_false (a == b)

some_of : (a : ℕ) (s : StreamPart) (past : List StreamPart) → s.sdi ≡ Some a
    → (list_any (same_declared (declaring s (Some a))) (map own_key past) || list_any (same_declared (declaring s None)) (map own_key past)) ≡ list_any (overlap s) past
some_of a s [] h = refl
some_of a s (t ∷ ts) h =
    or_swap (same_declared (declaring s (Some a)) (own_key t)) (list_any (same_declared (declaring s (Some a))) (map own_key ts)) (same_declared (declaring s None) (own_key t)) (list_any (same_declared (declaring s None)) (map own_key ts))
    ∙ ap (λ b. (same_declared (declaring s (Some a)) (own_key t) || same_declared (declaring s None) (own_key t)) || b) (some_of a s ts h)
    ∙ ap (λ b. b || list_any (overlap s) ts) (one_of (s.bus == t.bus) (s.label == t.label) a t.sdi ∙ ap (λ x. ((s.bus == t.bus) && (s.label == t.label)) && sdis_meet x t.sdi) (sym h))

pub known_overlaps : (s : StreamPart) (past : List StreamPart) (labels : List BusLabel) (exact : List Declared) → KnowsAll past labels exact → overlaps_known s labels exact ≡ list_any (overlap s) past
known_overlaps s past labels exact h = by s.sdi refl
  where
    by : (x : Option ℕ) → s.sdi ≡ x → overlaps_sdi x s labels exact ≡ list_any (overlap s) past
    by None e = h.0 (place_of s) ∙ any_of s past e
    by (Some a) e = rw (h.1 (declaring s (Some a)), h.1 (declaring s None)) (some_of a s past e)
