-- One more member of the last owner.
use Rattle.std.proofs.Common.{◌≡◌, ℕ, zero, suc, refl, ◌+◌, ◌<◌, ◌≤◌, List, [], ◌∷◌, ◌++◌, length, map, get_or, sym, arith, subst, inl, inr}
use Rattle.std.proofs.lemmas.Bool.{cases_lt}
use Rattle.std.proofs.lemmas.List.{get_or_append_left, map-append}
use Rattle.dc_document.specs.Document.{AreOwned}

front_is : (xs : List ℕ) (o i : ℕ) → i < length xs → get_or (xs ++ o ∷ []) i 0 ≡ get_or xs i 0
front_is xs o i h = get_or_append_left xs (o ∷ []) 0 i h

last_is : (xs : List ℕ) (o i : ℕ) → i < length (xs ++ o ∷ []) → length xs ≤ i → get_or (xs ++ o ∷ []) i 0 ≡ o
last_is [] o zero h g = refl
last_is [] o (suc i) h g = absurd (omega arith)
last_is (x ∷ xs) o zero h g = absurd (omega arith)
last_is (x ∷ xs) o (suc i) h g = last_is xs o i (omega arith) (omega arith)

one_owned : (xs : List ℕ) (o n : ℕ) → o + 1 ≡ n → AreOwned n xs → (i : ℕ) → i < length (xs ++ o ∷ []) → get_or (xs ++ o ∷ []) i 0 < n
one_owned xs o n e owned i l =
    elim (cases_lt i (length xs)) [
      | inl w ↦ let b = owned.below i w in let f = front_is xs o i w in omega arith
      | inr w ↦ let f = last_is xs o i l w in omega arith
    ]

one_ascends : (xs : List ℕ) (o n : ℕ) → o + 1 ≡ n → AreOwned n xs → (i j : ℕ) → i ≤ j → j < length (xs ++ o ∷ []) → get_or (xs ++ o ∷ []) i 0 ≤ get_or (xs ++ o ∷ []) j 0
one_ascends xs o n e owned i j le l =
    elim (cases_lt j (length xs)) [
      | inl w ↦ let a = owned.ascend i j le w in let f = front_is xs o i (omega arith) in let g = front_is xs o j w in omega arith
      | inr w ↦ let b = one_owned xs o n e owned i (omega arith) in let g = last_is xs o j l w in omega arith
    ]

-- a list that is longer by a member of the last owner
pub member_more : {A : Type 0} (owner : A → ℕ) (n : ℕ) (xs : List A) (x : A) → owner x + 1 ≡ n → AreOwned n (map owner xs) → AreOwned n (map owner (xs ++ x ∷ []))
member_more owner n xs x e owned =
    subst (AreOwned n) (sym (map-append owner xs (x ∷ []))) (record { below = one_owned (map owner xs) (owner x) n e owned; ascend = one_ascends (map owner xs) (owner x) n e owned })

-- the same, of a list that is said to be longer so
pub member_pushed : {A : Type 0} (owner : A → ℕ) (n : ℕ) (xs : List A) (x : A) (ys : List A) → ys ≡ xs ++ x ∷ [] → owner x + 1 ≡ n → AreOwned n (map owner xs) → AreOwned n (map owner ys)
member_pushed owner n xs x ys is e owned = subst (λ l. AreOwned n (map owner l)) (sym is) (member_more owner n xs x e owned)
