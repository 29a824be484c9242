-- Members that follow one another in the order of their owners.
use Rattle.std.proofs.Common.{◌≡◌, ℕ, zero, suc, ◌+◌, ◌<◌, ◌≤◌, ◌⊎◌, inl, inr, Bool, true, false, cond, nat_lt, ◌==◌, Option, Some, None, is_none, List, [], ◌∷◌, length, get_or, refl, ap, ◌∙◌, arith}
use Rattle.std.specs.List.{count_by, position, position_from}
use Rattle.std.proofs.lemmas.List.Sums.{sum_by-cons}
use Rattle.std.proofs.lemmas.Iterator.Adapters.{position_from-zero}
use Rattle.std.proofs.lemmas.Bool.{cases_lt}
use Rattle.std.proofs.lemmas.Bool.Decides.{nat_tests}
use Rattle.dc_rules.specs.lemmas.Picks.{each_fails}

-- 1 where the test passes, else 0
abbrev pub one : Bool → ℕ
one b = cond b 1 0

pub counted : {A : Type 0} (p : A → Bool) (x : A) (xs : List A) → count_by p (x ∷ xs) ≡ one (p x) + count_by p xs
counted p x xs = sum_by-cons (λ y. cond (p y) 1 0) x xs

pub one_true : (b : Bool) → b ≡ true → one b ≡ 1
one_true true h = refl
one_true false h = absurd (cc h)

pub one_false : (b : Bool) → b ≡ false → one b ≡ 0
one_false true h = absurd (cc h)
one_false false h = refl

is_lt : (a b : ℕ) → a < b → nat_lt a b ≡ true
is_lt a b h = grind (arith, nat_tests)

not_lt : (a b : ℕ) → b ≤ a → nat_lt a b ≡ false
not_lt a b h = grind (arith, nat_tests)

is_eq : (a b : ℕ) → a ≡ b → (a == b) ≡ true
is_eq a b h = grind (arith, nat_tests)

not_eq : (a b : ℕ) → (a ≡ b → ⊥) → (a == b) ≡ false
not_eq a b h = grind (arith, nat_tests)

abbrev pub Ascends : List ℕ → Type 0
Ascends xs = (i j : ℕ) → i ≤ j → j < length xs → get_or xs i 0 ≤ get_or xs j 0

abbrev below : ℕ → List ℕ → ℕ
below b xs = count_by (λ o. nat_lt o b) xs

abbrev at : ℕ → List ℕ → ℕ
at b xs = count_by (λ o. o == b) xs

tail_ascends : (x : ℕ) (xs : List ℕ) → Ascends (x ∷ xs) → Ascends xs
tail_ascends x xs h i j k l = h (suc i) (suc j) (omega arith) (omega arith)

-- none is below, where each is not
none_below : (b : ℕ) (xs : List ℕ) → ((k : ℕ) → k < length xs → b ≤ get_or xs k 0) → below b xs ≡ 0
none_below b [] h = refl
none_below b (x ∷ xs) h =
    omega (arith, counted (λ o. nat_lt o b) x xs, one_false (nat_lt x b) (not_lt x b (h 0 (omega arith))), none_below b xs (λ k l. h (suc k) (omega arith)))

none_at : (b : ℕ) (xs : List ℕ) → ((k : ℕ) → k < length xs → b < get_or xs k 0) → at b xs ≡ 0
none_at b [] h = refl
none_at b (x ∷ xs) h =
    omega (arith, counted (λ o. o == b) x xs, one_false (x == b) (not_eq x b (λ e. omega (arith, e, h 0 (omega arith)))), none_at b xs (λ k l. h (suc k) (omega arith)))

pub owners_fit : (b : ℕ) (xs : List ℕ) → below b xs + at b xs ≤ length xs
owners_fit b [] = omega arith
owners_fit b (x ∷ xs) =
    elim (cases_lt x b) [
      | inl l ↦ omega (arith, owners_fit b xs, counted (λ o. nat_lt o b) x xs, counted (λ o. o == b) x xs, one_true (nat_lt x b) (is_lt x b l), one_false (x == b) (not_eq x b (λ e. omega (arith, e, l))))
      | inr g ↦ elim (cases_lt b x) [
        | inl l ↦ omega (arith, owners_fit b xs, counted (λ o. nat_lt o b) x xs, counted (λ o. o == b) x xs, one_false (nat_lt x b) (not_lt x b g), one_false (x == b) (not_eq x b (λ e. omega (arith, e, l))))
        | inr e ↦ omega (arith, owners_fit b xs, counted (λ o. nat_lt o b) x xs, counted (λ o. o == b) x xs, one_false (nat_lt x b) (not_lt x b g), one_true (x == b) (is_eq x b (omega arith)))
      ]
    ]

-- the members of an owner are those from `below` on
abbrev pub IsPlaced : ℕ → List ℕ → ℕ → Type 0
IsPlaced b xs k = (get_or xs k 0 ≡ b → (below b xs ≤ k) × (k < below b xs + at b xs)) × (below b xs ≤ k → k < below b xs + at b xs → get_or xs k 0 ≡ b)

pub placed : (b : ℕ) (xs : List ℕ) → Ascends xs → (k : ℕ) → k < length xs → IsPlaced b xs k
placed b [] h k l = absurd (omega arith)
placed b (x ∷ xs) h zero l =
    elim (cases_lt x b) [
      | inl w ↦
          let c = counted (λ o. nat_lt o b) x xs in
          let t = one_true (nat_lt x b) (is_lt x b w) in
          (λ e. absurd (omega (arith, e, w)), λ m n. absurd (omega (arith, c, t, m)))
      | inr g ↦ elim (cases_lt b x) [
        | inl w ↦
            let c = counted (λ o. nat_lt o b) x xs in
            let t = one_false (nat_lt x b) (not_lt x b g) in
            let z = none_below b xs (λ k m. omega (arith, h 0 (suc k) (omega arith) (omega arith), w)) in
            let c2 = counted (λ o. o == b) x xs in
            let t2 = one_false (x == b) (not_eq x b (λ e. omega (arith, e, w))) in
            let z2 = none_at b xs (λ k m. omega (arith, h 0 (suc k) (omega arith) (omega arith), w)) in
            (λ e. absurd (omega (arith, e, w)), λ m n. absurd (omega (arith, c, t, z, c2, t2, z2, n)))
        | inr w ↦
            let e : x ≡ b = omega arith in
            let c = counted (λ o. nat_lt o b) x xs in
            let t = one_false (nat_lt x b) (not_lt x b g) in
            let z = none_below b xs (λ k m. omega (arith, h 0 (suc k) (omega arith) (omega arith), e)) in
            let c2 = counted (λ o. o == b) x xs in
            let t2 = one_true (x == b) (is_eq x b e) in
            (λ f. (omega (arith, c, t, z), omega (arith, c, t, z, c2, t2)), λ m n. e)
      ]
    ]
placed b (x ∷ xs) h (suc k) l =
    let r = placed b xs (tail_ascends x xs h) k (omega arith) in
    let c = counted (λ o. nat_lt o b) x xs in
    let c2 = counted (λ o. o == b) x xs in
    elim (cases_lt x b) [
      | inl w ↦
          let t = one_true (nat_lt x b) (is_lt x b w) in
          let t2 = one_false (x == b) (not_eq x b (λ e. omega (arith, e, w))) in
          (λ e. let s = r.0 e in (omega (arith, s.0, c, t), omega (arith, s.1, c, t, c2, t2)), λ m n. r.1 (omega (arith, m, c, t)) (omega (arith, n, c, t, c2, t2)))
      | inr g ↦
          let z = none_below b xs (λ j m. omega (arith, h 0 (suc j) (omega arith) (omega arith), g)) in
          let t = one_false (nat_lt x b) (not_lt x b g) in
          elim (cases_lt b x) [
            | inl w ↦
                let z2 = none_at b xs (λ j m. omega (arith, h 0 (suc j) (omega arith) (omega arith), w)) in
                let t2 = one_false (x == b) (not_eq x b (λ e. omega (arith, e, w))) in
                (λ e. absurd (omega (arith, e, w, h 0 (suc k) (omega arith) l)), λ m n. absurd (omega (arith, n, c, t, z, c2, t2, z2)))
            | inr w ↦
                let t2 = one_true (x == b) (is_eq x b (omega arith)) in
                (λ e. let s = r.0 e in (omega (arith, c, t, z), omega (arith, s.1, z, c, t, c2, t2)), λ m n. r.1 (omega (arith, z)) (omega (arith, n, z, c, t, c2, t2)))
          ]
    ]

-- ---- the one that passes a test

pub count_none : {A : Type 0} (p : A → Bool) (xs : List A) → ((k : ℕ) (d : A) → k < length xs → p (get_or xs k d) ≡ false) → count_by p xs ≡ 0
count_none p [] h = refl
count_none p (x ∷ xs) h = omega (arith, counted p x xs, one_false (p x) (h 0 x (omega arith)), count_none p xs (λ k d l. h (suc k) d (omega arith)))

some_when : (r : Option ℕ) → (r ≡ None → ⊥) → is_none r ≡ false
some_when None h = absurd (h refl)
some_when (Some i) h = refl

-- where some are counted, there is a first
pub counted_there : {A : Type 0} (p : A → Bool) (xs : List A) → 1 ≤ count_by p xs → is_none (position p xs) ≡ false
counted_there p xs h = some_when (position p xs) (λ e. omega (arith, h, count_none p xs (each_fails p xs e)))

pub count_some : {A : Type 0} (p : A → Bool) (xs : List A) (r : ℕ) (d : A) → r < length xs → p (get_or xs r d) ≡ true → 1 ≤ count_by p xs
count_some p [] r d h e = absurd (omega arith)
count_some p (x ∷ xs) zero d h e = omega (arith, counted p x xs, one_true (p x) e)
count_some p (x ∷ xs) (suc r) d h e = omega (arith, counted p x xs, count_some p xs r d (omega arith) e)

pub bool_cases : (b : Bool) → (b ≡ true) ⊎ (b ≡ false)
bool_cases true = inl refl
bool_cases false = inr refl

one_from : {A : Type 0} (p : A → Bool) (i : ℕ) (xs : List A) (r : ℕ) (d : A) → count_by p xs ≡ 1 → r < length xs → p (get_or xs r d) ≡ true → position_from p i xs ≡ Some (i + r)
one_from p i [] r d c h e = absurd (omega arith)
one_from p i (x ∷ xs) zero d c h e = let z : i + 0 ≡ i = omega arith in rw (e, z) refl
one_from p i (x ∷ xs) (suc r) d c h e =
    elim (bool_cases (p x)) [
      | inl w ↦ absurd (omega (arith, counted p x xs, one_true (p x) w, count_some p xs r d (omega arith) e))
      | inr w ↦
          let rest : count_by p xs ≡ 1 = omega (arith, counted p x xs, one_false (p x) w) in
          let s : i + suc r ≡ (i + 1) + r = omega arith in
          rw (w, s) (one_from p (i + 1) xs r d rest (omega arith) e)
    ]

-- where one passes, it is the first
pub only_one : {A : Type 0} (p : A → Bool) (xs : List A) (r : ℕ) (d : A) → count_by p xs ≡ 1 → r < length xs → p (get_or xs r d) ≡ true → position p xs ≡ Some r
only_one p xs r d c h e = position_from-zero p xs ∙ one_from p 0 xs r d c h e ∙ ap (λ k. Some k) (let z : 0 + r ≡ r = omega arith in z)
