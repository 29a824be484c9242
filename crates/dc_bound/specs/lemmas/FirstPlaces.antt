-- First places, and one more place.
use Rattle.std.proofs.Common.{◌≡◌, ℕ, zero, suc, ◌≤◌, ◌<◌, ◌⊎◌, Bool, true, false, Some, None, List, [], ◌∷◌, ◌++◌, length, take, refl, sym, ap, inl, inr, ◌∙◌, subst, arith, append_assoc}
use Rattle.std.proofs.lemmas.List.{take_all, append-nil}
use Rattle.std.proofs.lemmas.Bool.{cases_lt}
use Rattle.dc_bound.specs.Places.{least_where, first_place, each_from, each_place}

-- ---- induction by the last event

snoc_from : {X : Type 0} (P : List X → Type 0) → ((xs : List X) (x : X) → P xs → P (xs ++ x ∷ [])) → (past rest : List X) → P past → P (past ++ rest)
snoc_from P step past [] p = subst P (sym (append-nil past)) p
snoc_from P step past (x ∷ rest) p = subst P (append_assoc past (x ∷ []) rest) (snoc_from P step (past ++ x ∷ []) rest (step past x p))

pub snoc_induction : {X : Type 0} (P : List X → Type 0) → P [] → ((xs : List X) (x : X) → P xs → P (xs ++ x ∷ [])) → (xs : List X) → P xs
snoc_induction P first step xs = snoc_from P step [] xs first

-- ---- each place

pub each_from-push : {X A : Type 0} (f : List X → X → A) (past run : List X) (e : X) → each_from f past (run ++ e ∷ []) ≡ each_from f past run ++ f (past ++ run) e ∷ []
each_from-push f past [] e = ap (λ p. f p e ∷ []) (sym (append-nil past))
each_from-push f past (x ∷ run) e =
    let rec = each_from-push f (past ++ x ∷ []) run e in
    let same : (past ++ x ∷ []) ++ run ≡ past ++ (x ∷ run) = append_assoc past (x ∷ []) run in
    ap (λ l. f past x ∷ l) (rec ∙ ap (λ p. each_from f (past ++ x ∷ []) run ++ f p e ∷ []) same)

pub each_place-push : {X A : Type 0} (f : List X → X → A) (run : List X) (e : X) → each_place f (run ++ e ∷ []) ≡ each_place f run ++ f run e ∷ []
unfolding each_place
each_place-push f run e = each_from-push f [] run e

-- ---- the first place that passes

-- what the least place is, where there is one at all
pub record IsFirst (p : ℕ → Bool) (n i : ℕ) : Type 0 where
  pub found : least_where p n ≡ Some i
  pub bound : i ≤ n
  pub passes : p i ≡ true
  pub earlier : (j : ℕ) → j < i → p j ≡ false

pub least_where-none : (p : ℕ → Bool) (n : ℕ) → ((j : ℕ) → j ≤ n → p j ≡ false) → least_where p n ≡ None
least_where-none p zero h = rw (h 0 (omega arith)) refl
least_where-none p (suc n) h = rw (least_where-none p n (λ j l. h j (omega arith)), h (suc n) (omega arith)) refl

pub least_where-cases : (p : ℕ → Bool) (n : ℕ) → ((j : ℕ) → j ≤ n → p j ≡ false) ⊎ ((i : ℕ) × IsFirst p n i)
least_where-cases p zero =
    elim (p 0) as (λ b. p 0 ≡ b → ((j : ℕ) → j ≤ 0 → p j ≡ false) ⊎ ((i : ℕ) × IsFirst p 0 i)) [
      | true ↦ λ e. inr (0, record { found = rw e refl; bound = omega arith; passes = e; earlier = λ j l. absurd (omega arith) })
      | false ↦ λ e. inl (λ j l. let z : j ≡ 0 = omega arith in rw z e)
    ] refl
least_where-cases p (suc n) =
    elim (least_where-cases p n) [
      | inl none ↦
          elim (p (suc n)) as (λ b. p (suc n) ≡ b → ((j : ℕ) → j ≤ suc n → p j ≡ false) ⊎ ((i : ℕ) × IsFirst p (suc n) i)) [
            | true ↦ λ e. inr (suc n, record { found = rw (least_where-none p n none, e) refl; bound = omega arith; passes = e; earlier = λ j l. none j (omega arith) })
            | false ↦ λ e. inl (λ j l. elim (cases_lt j (suc n)) [ inl k ↦ none j (omega arith) | inr k ↦ (let z : j ≡ suc n = omega arith in rw z e) ])
          ] refl
      | inr (i, first) ↦ inr (i, record { found = (let f : least_where p n ≡ Some i = first.found in rw f refl); bound = omega (arith, first.bound); passes = first.passes; earlier = first.earlier })
    ]

-- the same of beginnings
pub record IsFirstPlace {X : Type 0} (p : List X → Bool) (run : List X) (i : ℕ) : Type 0 where
  pub found : first_place p run ≡ Some i
  pub bound : i ≤ length run
  pub passes : p (take i run) ≡ true
  pub earlier : (j : ℕ) → j < i → p (take j run) ≡ false

pub first_place-none : {X : Type 0} (p : List X → Bool) (run : List X) → ((j : ℕ) → j ≤ length run → p (take j run) ≡ false) → first_place p run ≡ None
unfolding first_place
first_place-none p run h = least_where-none (λ i. p (take i run)) (length run) h

pub first_place-found : {X : Type 0} (p : List X → Bool) (run : List X) → p run ≡ true → (i : ℕ) × IsFirstPlace p run i
unfolding first_place
first_place-found p run e =
    elim (least_where-cases (λ i. p (take i run)) (length run)) [
      | inl none ↦ (let no : p run ≡ false = ap p (sym (take_all (length run) run (omega arith))) ∙ none (length run) (omega arith) in absurd cc)
      | inr (i, first) ↦ (i, record { found = first.found; bound = first.bound; passes = first.passes; earlier = first.earlier })
    ]
