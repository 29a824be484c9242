-- Lists without doubled items, and counts.
use Rattle.std.proofs.Common.{◌≡◌, ℕ, zero, suc, ◌<◌, ◌≤◌, inl, inr, Bool, true, false, cond, ◌==◌, Option, Some, None, List, [], ◌∷◌, ◌++◌, length, get_or, take, refl, ◌∙◌, arith, subst, append_assoc}
use Rattle.std.specs.List.{count_by, list_any}
use Rattle.std.proofs.lemmas.List.{length-take, length-append, append-nil, get_or-take, get_or_append_left}
use Rattle.std.proofs.Math.Seq.{get_or-append_seam}
use Rattle.std.proofs.lemmas.Bool.{cases_lt}
use Rattle.dc_rules.specs.Rules.{doubled_from, doubled, counts}
use Rattle.dc_rules.specs.lemmas.Picks.{any_fails}
use Rattle.dc_rules.specs.lemmas.Owners.{counted, one_true, one_false, count_none, count_some, bool_cases}

cond_none : (b : Bool) (i : ℕ) (r : Option ℕ) → cond b (Some i) r ≡ None → (b ≡ false) × (r ≡ None)
cond_none true i r h = absurd (cc h)
cond_none false i r h = (refl, h)

fresh_from : {A : Type 0} (R : A → A → Bool) (past : List A) (i : ℕ) (xs : List A) → doubled_from R past i xs ≡ None → (b : ℕ) (d : A) → b < length xs → list_any (R (get_or xs b d)) (past ++ take b xs) ≡ false
fresh_from R past i [] h b d l = absurd (omega arith)
fresh_from R past i (x ∷ xs) h zero d l =
    let w = cond_none (list_any (R x) past) i (doubled_from R (past ++ (x ∷ [])) (suc i) xs) h in
    rw append-nil w.0
fresh_from {A} R past i (x ∷ xs) h (suc b) d l =
    let w = cond_none (list_any (R x) past) i (doubled_from R (past ++ (x ∷ [])) (suc i) xs) h in
    let P : List A → Type 0 = λ ys. list_any (R (get_or xs b d)) ys ≡ false in
    subst P (append_assoc past (x ∷ []) (take b xs)) (fresh_from R (past ++ (x ∷ [])) (suc i) xs w.1 b d (omega arith))

-- where no item is doubled, a later one is not related to an earlier one
pub apart : {A : Type 0} (R : A → A → Bool) (xs : List A) → doubled R xs ≡ None → (a b : ℕ) (d : A) → a < b → b < length xs → R (get_or xs b d) (get_or xs a d) ≡ false
apart {A} R xs h a b d l m =
    let f = fresh_from R [] 0 xs h b d m in
    let e : get_or (take b xs) a d ≡ get_or xs a d = get_or-take b xs a d l in
    let P : A → Type 0 = λ y. R (get_or xs b d) y ≡ false in
    subst P e (any_fails (R (get_or xs b d)) (take b xs) f a d (omega (arith, length-take b xs)))

pub no_true : (b : Bool) → (b ≡ true → ⊥) → b ≡ false
no_true true h = absurd (h refl)
no_true false h = refl

-- at most one item passes a test that no two pass
pub one_at_most : {A : Type 0} (p : A → Bool) (xs : List A) → ((a b : ℕ) (d : A) → a < b → b < length xs → p (get_or xs a d) ≡ true → p (get_or xs b d) ≡ true → ⊥) → count_by p xs ≤ 1
one_at_most p [] h = omega arith
one_at_most p (x ∷ xs) h =
    elim (bool_cases (p x)) [
      | inl w ↦ omega (arith, counted p x xs, one_true (p x) w, count_none p xs (λ k d l. no_true (p (get_or xs k d)) (λ e. h 0 (suc k) d (omega arith) (omega arith) w e)))
      | inr w ↦ omega (arith, counted p x xs, one_false (p x) w, one_at_most p xs (λ a b d l m e f. h (suc a) (suc b) d (omega arith) (omega arith) e f))
    ]

-- two that pass are counted
pub two_at_least : {A : Type 0} (p : A → Bool) (xs : List A) (a b : ℕ) (d : A) → a < b → b < length xs → p (get_or xs a d) ≡ true → p (get_or xs b d) ≡ true → 2 ≤ count_by p xs
two_at_least p [] a b d l m e f = absurd (omega arith)
two_at_least p (x ∷ xs) a zero d l m e f = absurd (omega arith)
two_at_least p (x ∷ xs) zero (suc b) d l m e f = omega (arith, counted p x xs, one_true (p x) e, count_some p xs b d (omega arith) f)
two_at_least p (x ∷ xs) (suc a) (suc b) d l m e f = omega (arith, counted p x xs, two_at_least p xs a b d (omega arith) (omega arith) e f)

-- ---- how many members each owner has

pub counts_length : (owners : List ℕ) (n : ℕ) → length (counts owners n) ≡ n
counts_length owners zero = refl
counts_length owners (suc n) = omega (arith, length-append (counts owners n) (count_by (λ o. o == n) owners ∷ []), counts_length owners n)

pub counts_at : (owners : List ℕ) (n o : ℕ) → o < n → get_or (counts owners n) o 0 ≡ count_by (λ w. w == o) owners
counts_at owners zero o h = absurd (omega arith)
counts_at owners (suc n) o h =
    elim (cases_lt o n) [
      | inl l ↦ get_or_append_left (counts owners n) (count_by (λ w. w == n) owners ∷ []) 0 o (omega (arith, counts_length owners n)) ∙ counts_at owners n o l
      | inr g ↦
          let e : n ≡ o = omega arith in
          let at : get_or (counts owners n ++ (count_by (λ w. w == n) owners ∷ [])) (length (counts owners n)) 0 ≡ count_by (λ w. w == n) owners = get_or-append_seam (counts owners n) (count_by (λ w. w == n) owners) [] 0 in
          let P : ℕ → Type 0 = λ k. get_or (counts owners (suc n)) k 0 ≡ count_by (λ w. w == k) owners in
          let Q : ℕ → Type 0 = λ k. get_or (counts owners n ++ (count_by (λ w. w == n) owners ∷ [])) k 0 ≡ count_by (λ w. w == n) owners in
          subst P e (subst Q (counts_length owners n) at)
    ]
