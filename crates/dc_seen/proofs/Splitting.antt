-- Lemmas on the fields of a line.
use Rattle.std.proofs.Common.{◌≡◌, ℕ, ◌+◌, ◌<◌, ◌≤◌, ◌==◌, Bool, if◌then◌else◌, List, [], ◌∷◌, ◌++◌, length, get_or, drop, refl, ap, ◌∙◌, sym, true, false, arith}
use Rattle.std.proofs.lemmas.List.{drop_more}
use Rattle.dc_event.specs.TraceText.{fields_of, onto_field}
use Rattle.dc_seen.specs.Kinds.{spaces}

-- bytes in front of the first field
abbrev pub onto_first : List ℕ → List (List ℕ) → List (List ℕ)
onto_first front [] = front ∷ []
onto_first front (f ∷ fs) = (front ++ f) ∷ fs

first_of_two : (b : Bool) (c : ℕ) (fs : List (List ℕ)) → onto_first [] (if b then [] ∷ fs else onto_field c fs) ≡ (if b then [] ∷ fs else onto_field c fs)
first_of_two true c fs = refl
first_of_two false c [] = refl
first_of_two false c (f ∷ fs) = refl

-- no bytes in front
pub fields_none : (text : List ℕ) → fields_of text ≡ onto_first [] (fields_of text)
fields_none [] = refl
fields_none (c ∷ cs) = sym (first_of_two (c == 32) c (fields_of cs))

-- ---- how many fields there are

onto_some : (b : Bool) (c : ℕ) (fs : List (List ℕ)) → 0 < length (if b then [] ∷ fs else onto_field c fs)
onto_some true c fs = omega arith
onto_some false c [] = omega arith
onto_some false c (f ∷ fs) = omega arith

has_field : (text : List ℕ) → 0 < length (fields_of text)
has_field [] = omega arith
has_field (c ∷ cs) = onto_some (c == 32) c (fields_of cs)

onto_count : (b : Bool) (c : ℕ) (fs : List (List ℕ)) → 0 < length fs → length (if b then [] ∷ fs else onto_field c fs) ≡ (if b then 1 else 0) + length fs
onto_count true c fs some = omega arith
onto_count false c [] some = absurd (omega arith)
onto_count false c (f ∷ fs) some = omega arith

count_first : (c : ℕ) (cs : List ℕ) → length (fields_of (c ∷ cs)) ≡ spaces c + length (fields_of cs)
count_first c cs = onto_count (c == 32) c (fields_of cs) (has_field cs)

-- one byte more
pub count_more : (text : List ℕ) (i c n count : ℕ) → i < length text → c ≡ get_or text i 0 → n ≡ spaces c → count + length (fields_of (drop i text)) ≡ length (fields_of text) + 1
    → (count + n) + length (fields_of (drop (i + 1) text)) ≡ length (fields_of text) + 1
count_more text i c n count there is counted before =
    let here : length (fields_of (drop i text)) ≡ spaces (get_or text i 0) + length (fields_of (drop (i + 1) text)) =
    ap (λ l. length (fields_of l)) (drop_more text i 0 there) ∙ count_first (get_or text i 0) (drop (i + 1) text) in
    let same : spaces c ≡ spaces (get_or text i 0) = ap spaces is in
    omega (arith, here, same, counted, before)

one_space : (b : Bool) → (if b then 1 else 0) ≤ 1
one_space true = omega arith
one_space false = omega arith

pub few_spaces : (c : ℕ) → spaces c ≤ 1
few_spaces c = one_space (c == 32)
