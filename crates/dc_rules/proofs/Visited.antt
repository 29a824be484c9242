-- The routers that visit a bus, reported one visit after another.
use Rattle.std.proofs.Common.{◌≡◌, ℕ, suc, ◌+◌, ◌<◌, ◌≤◌, inl, inr, Bool, true, false, cond, ◌||◌, not, ◌==◌, nat_lt, Option, Some, None, List, [], ◌∷◌, ◌++◌, length, map, refl, sym, ap, ◌∙◌, arith}
use Rattle.std.specs.Prelude.{option_map, unwrap_or}
use Rattle.std.specs.List.{count_by, position, position_from}
use Rattle.std.specs.Str.{bytes_eq}
use Rattle.std.proofs.lemmas.Slice.Eq.{bytes_eq-Decides}
use Rattle.std.proofs.lemmas.Bool.{cases_lt}
use Rattle.std.proofs.lemmas.Bool.Decides.{nat_tests}
use Rattle.std.proofs.lemmas.List.Sums.{sum_by-append, sum_by-cons}
use Rattle.std.proofs.lemmas.Iterator.Adapters.{position_from-zero}
use Rattle.dc_rules.specs.Rules.{visits_bus, first_unserved}
use Rattle.dc_rules.specs.Visits.{visitors_of, with_visit, with_router, is_served, first_of, visiting_routers}
use Rattle.dc_rules.specs.declared.visits.Visitors.{Visitors}
use Rattle.dc_document.specs.declared.parts.RouterPart.{RouterPart}
use Rattle.dc_document.specs.declared.parts.BusPart.{BusPart}
use Rattle.dc_rules.specs.lemmas.Owners.{one, counted, one_true, count_none, bool_cases}
use Rattle.dc_rules.specs.lemmas.Picks.{each_fails, first_passes}

-- ---- a visit more

same_swap : (a b : List ℕ) → bytes_eq a b ≡ true → bytes_eq b a ≡ true
same_swap a b t = (bytes_eq-Decides b a).1 (sym ((bytes_eq-Decides a b).0 t))

other_swap : (a b : List ℕ) → bytes_eq a b ≡ false → bytes_eq b a ≡ false
other_swap a b f =
    elim (bool_cases (bytes_eq b a)) [
      | inl t ↦ absurd (cc (sym f ∙ same_swap b a t))
      | inr g ↦ g
    ]

-- what is put under a name is found under it alone
pub visit_put : (past : List ℕ → Option Visitors) (found : Option Visitors) (name n : List ℕ) (router : ℕ) (v : Visitors) → v ≡ with_visit (past name) router → found ≡ cond (bytes_eq name n) (Some v) (past n)
    → found ≡ with_router (bytes_eq n name) (past n) router
visit_put past found name n router v here h =
    elim (bool_cases (bytes_eq name n)) [
      | inl t ↦
          h ∙ ap (λ b. cond b (Some v) (past n)) t ∙ ap Some (here ∙ ap (λ k. with_visit (past k) router) ((bytes_eq-Decides name n).0 t))
          ∙ sym (ap (λ b. with_router b (past n) router) (same_swap name n t))
      | inr f ↦ h ∙ ap (λ b. cond b (Some v) (past n)) f ∙ sym (ap (λ b. with_router b (past n) router) (other_swap name n f))
    ]

-- ---- a router more

abbrev or_last : Option ℕ → Bool → ℕ → Option ℕ
or_last None b k = cond b (Some k) None
or_last (Some j) b k = Some j

from_push : {A : Type 0} (p : A → Bool) (i : ℕ) (xs : List A) (x : A) → position_from p i (xs ++ (x ∷ [])) ≡ or_last (position_from p i xs) (p x) (i + length xs)
from_push p i [] x = let z : i + 0 ≡ i = omega arith in rw z refl
from_push p i (y ∷ ys) x =
    elim (bool_cases (p y)) [
      | inl t ↦ rw t refl
      | inr f ↦
          let s : (i + 1) + length ys ≡ i + suc (length ys) = omega arith in
          rw f (from_push p (i + 1) ys x ∙ ap (λ k. or_last (position_from p (i + 1) ys) (p x) k) s)
    ]

position_push : {A : Type 0} (p : A → Bool) (xs : List A) (x : A) → position p (xs ++ (x ∷ [])) ≡ or_last (position p xs) (p x) (length xs)
position_push p xs x =
    let z : 0 + length xs ≡ length xs = omega arith in
    position_from-zero p (xs ++ (x ∷ [])) ∙ from_push p 0 xs x ∙ ap (λ k. or_last (position_from p 0 xs) (p x) k) z ∙ ap (λ r. or_last r (p x) (length xs)) (sym (position_from-zero p xs))

count_push : {A : Type 0} (p : A → Bool) (xs : List A) (x : A) → count_by p (xs ++ (x ∷ [])) ≡ count_by p xs + one (p x)
count_push p xs x = omega (arith, sum_by-append (λ y. cond (p y) 1 0) xs (x ∷ []), sum_by-cons (λ y. cond (p y) 1 0) x [])

some_counted : {A : Type 0} (p : A → Bool) (i : ℕ) (xs : List A) (j : ℕ) → position_from p i xs ≡ Some j → 1 ≤ count_by p xs
some_counted p i [] j h = absurd (cc h)
some_counted p i (x ∷ xs) j h =
    elim (bool_cases (p x)) [
      | inl t ↦ omega (arith, counted p x xs, one_true (p x) t)
      | inr f ↦ omega (arith, counted p x xs, some_counted p (i + 1) xs j (sym (ap (λ b. cond b (Some i) (position_from p (i + 1) xs)) f) ∙ h))
    ]

found_counted : {A : Type 0} (p : A → Bool) (xs : List A) (j : ℕ) → position p xs ≡ Some j → 1 ≤ count_by p xs
found_counted p xs j h = some_counted p 0 xs j (sym (position_from-zero p xs) ∙ h)

abbrev reported : Bool → ℕ → Visitors
reported shared router = record { first = router; shared = shared }

not_same : (a b : ℕ) → a < b → (a == b) ≡ false
not_same a b h = grind (arith, nat_tests)

or_true : (b : Bool) → (b || true) ≡ true
or_true true = refl
or_true false = refl

is_more : (n : ℕ) → 1 ≤ n → nat_lt 1 (n + 1) ≡ true
is_more n h = grind (arith, nat_tests)

one_or_more : (n : ℕ) → 1 ≤ n → not (nat_lt 1 n) ≡ (n == 1)
one_or_more n h =
    elim (cases_lt 1 n) [
      | inl l ↦ let t : nat_lt 1 n ≡ true = grind (arith, nat_tests) in let u : (n == 1) ≡ false = grind (arith, nat_tests) in rw (t, u) refl
      | inr g ↦ let t : n ≡ 1 = omega arith in rw t refl
    ]

module _ {A : Type 0} (p : A → Bool) (xs : List A) where
  one_more : (found : Option ℕ) (b : Bool) → position p xs ≡ found
      → with_router b (option_map (reported (nat_lt 1 (count_by p xs))) found) (length xs) ≡ option_map (reported (nat_lt 1 (count_by p xs + one b))) (or_last found b (length xs))
  one_more None false h = refl
  one_more None true h =
      let none : count_by p xs ≡ 0 = count_none p xs (each_fails p xs h) in
      ap (λ n. Some (reported (nat_lt 1 (n + 1)) (length xs))) (sym none)
  one_more (Some j) false h =
      let same : count_by p xs + 0 ≡ count_by p xs = omega arith in
      ap (λ n. Some (reported (nat_lt 1 n) j)) (sym same)
  one_more (Some j) true h =
      ap (λ b. Some (reported b j)) (ap (λ b. nat_lt 1 (count_by p xs) || not b) (not_same j (length xs) (first_passes p xs j h).0) ∙ or_true (nat_lt 1 (count_by p xs)) ∙ sym (is_more (count_by p xs) (found_counted p xs j h)))

  more : (x : A) → with_router (p x) (option_map (reported (nat_lt 1 (count_by p xs))) (position p xs)) (length xs) ≡ option_map (reported (nat_lt 1 (count_by p (xs ++ (x ∷ []))))) (position p (xs ++ (x ∷ [])))
  more x =
      one_more (position p xs) (p x) refl
      ∙ ap (λ n. option_map (reported (nat_lt 1 n)) (or_last (position p xs) (p x) (length xs))) (sym (count_push p xs x))
      ∙ ap (λ r. option_map (reported (nat_lt 1 (count_by p (xs ++ (x ∷ []))))) r) (sym (position_push p xs x))

  served_is : (found : Option ℕ) → position p xs ≡ found → is_served (option_map (reported (nat_lt 1 (count_by p xs))) found) ≡ (count_by p xs == 1)
  served_is None h =
      let none : count_by p xs ≡ 0 = count_none p xs (each_fails p xs h) in
      ap (λ n. n == 1) (sym none)
  served_is (Some j) h = one_or_more (count_by p xs) (found_counted p xs j h)

  first_is : (found : Option ℕ) → first_of (option_map (reported (nat_lt 1 (count_by p xs))) found) ≡ unwrap_or found 0
  first_is None = refl
  first_is (Some j) = refl

-- one more router with all its visits
pub visitors_more : (routers past : List RouterPart) (router : RouterPart) (i : ℕ) (n : List ℕ) (now next : Option Visitors) → routers ≡ past ++ (router ∷ []) → i ≡ length past
    → now ≡ visitors_of past n → next ≡ with_router (visits_bus n router) now i → next ≡ visitors_of routers n
visitors_more routers past router i n now next e l h k =
    k ∙ ap (λ v. with_router (visits_bus n router) v i) h ∙ ap (λ j. with_router (visits_bus n router) (visitors_of past n) j) l ∙ more (visits_bus n) past router ∙ sym (ap (λ xs. visitors_of xs n) e)

-- ---- what the visitors tell

pub unserved_is : (routers : List RouterPart) (buses : List BusPart) (found : List ℕ → Option Visitors) → ((n : List ℕ) → found n ≡ visitors_of routers n)
    → position (λ (b : BusPart). not (is_served (found b.name))) buses ≡ first_unserved routers buses
unserved_is routers buses found h =
    let served : (n : List ℕ) → is_served (found n) ≡ (count_by (visits_bus n) routers == 1) = λ n. ap is_served (h n) ∙ served_is (visits_bus n) routers (position (visits_bus n) routers) refl in
    λ i. position (λ (b : BusPart). not (served b.name i)) buses

pub visitors_are : (routers : List RouterPart) (buses : List BusPart) (found : List ℕ → Option Visitors) → ((n : List ℕ) → found n ≡ visitors_of routers n)
    → map (λ (b : BusPart). first_of (found b.name)) buses ≡ visiting_routers routers buses
visitors_are routers buses found h =
    let first : (n : List ℕ) → first_of (found n) ≡ unwrap_or (position (visits_bus n) routers) 0 = λ n. ap first_of (h n) ∙ first_is (visits_bus n) routers (position (visits_bus n) routers) in
    λ i. map (λ (b : BusPart). first b.name i) buses
