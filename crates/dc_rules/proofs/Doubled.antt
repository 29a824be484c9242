-- One more item of a list without doubled items, and one more label's entries.
use Rattle.std.proofs.Common.{◌≡◌, ℕ, suc, ◌+◌, ◌<◌, Bool, true, false, Some, List, [], ◌∷◌, ◌++◌, length, get_or, take, drop, refl, sym, ap, ◌∙◌, add-one, append_assoc}
use Rattle.std.proofs.Math.Seq.{drop-cons, take-suc}
use Rattle.std.specs.List.{list_any}
use Rattle.dc_rules.specs.Rules.{doubled_from, label_entries, entries_from}
use Rattle.dc_rules.specs.declared.keys.PlacedEntry.{PlacedEntry}
use Rattle.dc_document.specs.declared.parts.LabelPart.{LabelPart}

step_at : {A : Type 0} (R : A → A → Bool) (past : List A) (i : ℕ) (x : A) (rest : List A) → list_any (R x) past ≡ false
    → doubled_from R past i (x ∷ rest) ≡ doubled_from R (past ++ (x ∷ [])) (suc i) rest
step_at R past i x rest none = rw none

pub doubled_step : {A : Type 0} (R : A → A → Bool) (xs : List A) (i : ℕ) (x : A) → i < length xs → x ≡ get_or xs i x → list_any (R x) (take i xs) ≡ false
    → doubled_from R (take (i + 1) xs) (i + 1) (drop (i + 1) xs) ≡ doubled_from R (take i xs) i (drop i xs)
doubled_step R xs i x h e none =
    let d : drop i xs ≡ x ∷ drop (suc i) xs = drop-cons xs i x h ∙ ap (λ y. y ∷ drop (suc i) xs) (sym e) in
    let t : take (suc i) xs ≡ take i xs ++ (x ∷ []) = take-suc xs i x h ∙ ap (λ y. take i xs ++ (y ∷ [])) (sym e) in
    rw (add-one, t, d) (sym (step_at R (take i xs) i x (drop (suc i) xs) none))

pub entries_step : (past : List PlacedEntry) (xs : List LabelPart) (i : ℕ) (x : LabelPart) → i < length xs → x ≡ get_or xs i x
    → (past ++ label_entries i x) ++ entries_from (i + 1) (drop (i + 1) xs) ≡ past ++ entries_from i (drop i xs)
entries_step past xs i x h e =
    let d : drop i xs ≡ x ∷ drop (suc i) xs = drop-cons xs i x h ∙ ap (λ y. y ∷ drop (suc i) xs) (sym e) in
    rw (add-one, d) (append_assoc past (label_entries i x) (entries_from (suc i) (drop (suc i) xs)))

-- the items up to the next one
pub take_more : {A : Type 0} (xs : List A) (i : ℕ) (x : A) → i < length xs → x ≡ get_or xs i x → take (i + 1) xs ≡ take i xs ++ (x ∷ [])
take_more xs i x h e = rw add-one (take-suc xs i x h ∙ ap (λ y. take i xs ++ (y ∷ [])) (sym e))

found_at : {A : Type 0} (R : A → A → Bool) (past : List A) (i : ℕ) (x : A) (rest : List A) → list_any (R x) past ≡ true → doubled_from R past i (x ∷ rest) ≡ Some i
found_at R past i x rest there = rw there refl

-- an item that is related to one before it is the first
pub doubled_at : {A : Type 0} (R : A → A → Bool) (xs : List A) (i : ℕ) (x : A) → i < length xs → x ≡ get_or xs i x → list_any (R x) (take i xs) ≡ true
    → Some i ≡ doubled_from R (take i xs) i (drop i xs)
doubled_at R xs i x h e there =
    let d : drop i xs ≡ x ∷ drop (suc i) xs = drop-cons xs i x h ∙ ap (λ y. y ∷ drop (suc i) xs) (sym e) in
    rw d (sym (found_at R (take i xs) i x (drop (suc i) xs) there))
