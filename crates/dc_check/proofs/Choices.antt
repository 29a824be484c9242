-- The choice of a word.
use Rattle.std.proofs.Common.{◌≡◌, ℕ, zero, suc, ◌<◌, Bool, true, false, cond, Some, List, [], ◌∷◌, ◌++◌, length, get_or, refl, sym, ap, inl, inr, ◌∙◌, arith}
use Rattle.std.specs.List.{flat_map, filter, Contains}
use Rattle.std.proofs.lemmas.List.Elements.{Contains-append_cases, All-filter, All-contains, All-contains_itself, Contains-append_left, Contains-append_right}
use Rattle.std.proofs.lemmas.Map.Made.{Contains-tail}
use Rattle.std.proofs.lemmas.Bool.{both_ways}
use Rattle.dc_event.specs.Choice.{head}

-- the first of a list is in it
pub head-in : (cs : List (ℕ × ℕ)) (c : ℕ × ℕ) → head cs ≡ Some c → Contains cs c
head-in [] c h = absurd cc
head-in (d ∷ cs) c h = let e : d ≡ c = cc in (0, omega arith, e)

-- what is chosen is one of the candidates
pub choice-in : (p : (ℕ × ℕ) → Bool) (cs : List (ℕ × ℕ)) (c : ℕ × ℕ) → head (filter p cs ++ cs) ≡ Some c → Contains cs c
choice-in p cs c h =
    elim (Contains-append_cases (filter p cs) cs c (head-in (filter p cs ++ cs) c h)) [
      | inl kept ↦ All-contains (λ d. Contains cs d) (filter p cs) c (All-filter p (λ d. Contains cs d) cs (All-contains_itself cs)) kept
      | inr there ↦ there
    ]

-- a usable first candidate is chosen
pub choice-first : (p : (ℕ × ℕ) → Bool) (c : ℕ × ℕ) (cs : List (ℕ × ℕ)) → p c ≡ true → head (filter p (c ∷ cs) ++ (c ∷ cs)) ≡ Some c
choice-first p c cs h = rw h refl

-- where some candidate is usable, a usable one is chosen
pub choice-usable : (p : (ℕ × ℕ) → Bool) (cs more : List (ℕ × ℕ)) (c : ℕ × ℕ) → Contains cs c → p c ≡ true → (d : ℕ × ℕ) × (head (filter p cs ++ more) ≡ Some d) × (p d ≡ true)
choice-usable p [] more c (k, h, e) u = absurd (omega arith)
choice-usable p (b ∷ cs) more c there u =
    elim (p b) as (λ x. p b ≡ x → (d : ℕ × ℕ) × (head (cond x (b ∷ filter p cs) (filter p cs) ++ more) ≡ Some d) × (p d ≡ true)) [
      | true ↦ λ e. (b, refl, e)
      | false ↦ λ e. choice-usable p cs more c (Contains-tail b cs c (λ same. both_ways (p c) (ap p (sym same) ∙ e) u) there) u
    ] refl

-- an element of lists joined end to end is in one of them
pub flat_map-in : {A : Type 0} (f : ℕ → List A) (xs : List ℕ) (c : A) → Contains (flat_map f xs) c → (k : ℕ) × (k < length xs) × Contains (f (get_or xs k 0)) c
flat_map-in f [] c (k, h, e) = absurd (omega arith)
flat_map-in f (x ∷ xs) c there =
    elim (Contains-append_cases (f x) (flat_map f xs) c there) [
      | inl here ↦ (0, omega arith, here)
      | inr later ↦ let r = flat_map-in f xs c later in (suc r.0, omega (arith, r.1), r.2)
    ]

pub in-flat_map : {A : Type 0} (f : ℕ → List A) (xs : List ℕ) (k : ℕ) (c : A) → k < length xs → Contains (f (get_or xs k 0)) c → Contains (flat_map f xs) c
in-flat_map f [] k c h there = absurd (omega arith)
in-flat_map f (x ∷ xs) zero c h there = Contains-append_left (f x) (flat_map f xs) c there
in-flat_map f (x ∷ xs) (suc k) c h there = Contains-append_right (f x) (flat_map f xs) c (in-flat_map f xs k c (omega arith) there)
