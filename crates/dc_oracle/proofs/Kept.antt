-- The last entries of a history tell of its end what the whole history tells.
use Rattle.std.proofs.Common.{◌≡◌, ℕ, zero, suc, ◌+◌, ◌-◌, ◌≤◌, ◌<◌, Bool, true, false, leb, ltb, ◌&&◌, List, [], ◌∷◌, ◌++◌, length, get_or, drop, refl, sym, ap, ◌∙◌, subst, arith, inl, inr, length-drop, length-append}
use Rattle.std.specs.Prelude.{not}
use Rattle.std.proofs.lemmas.List.{get_or-drop, drop-append-le}
use Rattle.std.proofs.lemmas.Bool.{cases_lt, le-leb, lt-leb}
use Rattle.circular_buffer.specs.Buffer.{keep_last}
use Rattle.dc_oracle.specs.History.{held, lacking}

kept-length : (n : ℕ) (ts : List ℕ) → length (keep_last n ts) ≡ length ts - (length ts - n)
kept-length n ts = length-drop (length ts - n) ts

pub held-kept : (n count window tick : ℕ) (ts : List ℕ) → 1 ≤ count → count ≤ n → held count window tick (keep_last n ts) ≡ held count window tick ts
held-kept n count window tick ts some le =
    elim (cases_lt (length ts) count) [
      | inl few ↦
          let a : leb count (length ts) ≡ false = lt-leb _ _ few in
          let b : leb count (length (keep_last n ts)) ≡ false = lt-leb _ _ (omega (arith, kept-length n ts)) in
          ap (λ v. v && ltb (tick - get_or (keep_last n ts) (length (keep_last n ts) - count) 0) window) b ∙ sym (ap (λ v. v && ltb (tick - get_or ts (length ts - count) 0) window) a)
      | inr many ↦
          let a : leb count (length ts) ≡ true = le-leb _ _ many in
          let b : leb count (length (keep_last n ts)) ≡ true = le-leb _ _ (omega (arith, kept-length n ts)) in
          let place : length ts - n + (length (keep_last n ts) - count) ≡ length ts - count = omega (arith, kept-length n ts) in
          let same : get_or (keep_last n ts) (length (keep_last n ts) - count) 0 ≡ get_or ts (length ts - count) 0 = get_or-drop (length ts - n) ts (length (keep_last n ts) - count) 0 ∙ ap (λ i. get_or ts i 0) place in
          ap (λ v. v && ltb (tick - get_or (keep_last n ts) (length (keep_last n ts) - count) 0) window) b ∙ ap (λ k. ltb (tick - k) window) same ∙ sym (ap (λ v. v && ltb (tick - get_or ts (length ts - count) 0) window) a)
    ]

pub lacking-kept : (n steps within tick : ℕ) (ts : List ℕ) → 1 ≤ steps → steps ≤ n → lacking steps within tick (keep_last n ts) ≡ lacking steps within tick ts
lacking-kept n steps within tick ts some le = ap (λ v. leb within (tick + 1) && not v) (held-kept n steps within tick ts some le)

drop-more : (k : ℕ) (ts : List ℕ) → drop 1 (drop k ts) ≡ drop (suc k) ts
drop-more zero ts = refl
drop-more (suc k) [] = refl
drop-more (suc k) (t ∷ ts) = drop-more k ts

-- one more
pub kept-push : (n : ℕ) (ts : List ℕ) (t : ℕ) → keep_last n (keep_last n ts ++ t ∷ []) ≡ keep_last n (ts ++ t ∷ [])
kept-push n ts t =
    let long : length (ts ++ t ∷ []) ≡ length ts + 1 = length-append ts (t ∷ []) ∙ omega arith in
    let short : length (keep_last n ts ++ t ∷ []) ≡ length (keep_last n ts) + 1 = length-append (keep_last n ts) (t ∷ []) ∙ omega arith in
    elim (cases_lt n (length ts)) [
      | inl over ↦
          let one : length (keep_last n ts ++ t ∷ []) - n ≡ 1 = omega (arith, short, kept-length n ts) in
          let all : length (ts ++ t ∷ []) - n ≡ suc (length ts - n) = omega (arith, long) in
          ap (λ k. drop k (keep_last n ts ++ t ∷ [])) one ∙ ap (drop 1) (sym (drop-append-le (length ts - n) ts (t ∷ []) (omega arith))) ∙ drop-more (length ts - n) (ts ++ t ∷ []) ∙ sym (ap (λ k. drop k (ts ++ t ∷ [])) all)
      | inr within ↦
          let none : length ts - n ≡ 0 = omega arith in
          let same : keep_last n ts ≡ ts = ap (λ k. drop k ts) none in
          ap (λ l. keep_last n (l ++ t ∷ [])) same
    ]
