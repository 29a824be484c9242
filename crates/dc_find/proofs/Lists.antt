-- Rows that grow by one.
use Rattle.std.proofs.Common.{◌≡◌, ℕ, ◌+◌, List, [], ◌∷◌, ◌++◌, length, map, get_or, Bool, true, false, sym, ap, subst, ◌∙◌, arith, inl, inr}
use Rattle.std.specs.Prelude.{if◌then◌else◌, Result, Ok, Err}
use Rattle.std.specs.Result.{IfErr}
use Rattle.std.proofs.lemmas.Bool.{cases_lt}
use Rattle.std.proofs.lemmas.List.{get_or_append_left, get_or-append-add, map-append, length-append}
use Rattle.dc_find.specs.Rows.{EachAt}

-- so many rows, and P of each
pub record AreRows {Y : Type 0} (P : ℕ → Y → Type 0) (n : ℕ) (ys : List Y) : Type 0 where
  pub count : length ys ≡ n
  pub each : EachAt P ys

one_more : {Y : Type 0} (P : ℕ → Y → Type 0) (n : ℕ) (ys : List Y) (y : Y) → AreRows P n ys → P n y → AreRows P (n + 1) (ys ++ y ∷ [])
one_more P n ys y rows here = record {
  count = omega (arith, length-append ys (y ∷ []), rows.count);
  each = λ k d there.
      elim (cases_lt k (length ys)) [
        | inl l ↦ subst (P k) (sym (get_or_append_left ys (y ∷ []) d k l)) (rows.each k d l)
        | inr g ↦
            let last : k ≡ n = omega (arith, there, length-append ys (y ∷ []), rows.count) in
            let at : get_or (ys ++ y ∷ []) k d ≡ y = ap (λ i. get_or (ys ++ y ∷ []) i d) (omega (arith, last, rows.count)) ∙ get_or-append-add ys (y ∷ []) 0 d in
            subst (P k) (sym at) (subst (λ i. P i y) (sym last) here)
      ];
}

-- one more row of another list, whose rows are seen through f
pub row_pushed : {X Y : Type 0} (f : X → Y) (P : ℕ → Y → Type 0) (n : ℕ) (xs : List X) (x : X) → AreRows P n (map f xs) → P n (f x) → AreRows P (n + 1) (map f (xs ++ x ∷ []))
row_pushed f P n xs x rows here = subst (AreRows P (n + 1)) (sym (map-append f xs (x ∷ []))) (one_more P n (map f xs) (f x) rows here)

-- what a push left, where it pushed
pub pushed : {X : Type 0} (new old longer : List X) (done : Bool) → new ≡ (if done then longer else old) → done ≡ true → new ≡ longer
pushed new old longer true h e = h
pushed new old longer false h e = absurd cc

-- what an error says, in other words
pub if_err-map : {T E : Type 0} (r : Result T E) (P Q : E → Type 0) → ((e : E) → P e → Q e) → IfErr r P → IfErr r Q
if_err-map (Ok x) P Q f h = tt
if_err-map (Err e) P Q f h = f e h
