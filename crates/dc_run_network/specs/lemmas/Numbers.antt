-- The number of a name among the concentrators of a text, as a search comes to it.
use Rattle.std.proofs.Common.{◌≡◌, ℕ, suc, ◌+◌, ◌<◌, ◌≤◌, Bool, true, false, cond, not, ltb, Some, None, List, [], ◌∷◌, length, drop, get_or, refl, sym, ap, ◌∙◌, arith}
use Rattle.std.specs.Prelude.{unwrap_or}
use Rattle.std.specs.List.{position_or_len}
use Rattle.std.proofs.lemmas.Bool.{ltb-false}
use Rattle.std.proofs.lemmas.List.{drop_more}
use Rattle.dc_system_text.specs.System.{ConcentratorRow}
use Rattle.dc_run_network.specs.Links.{is_named, number_in}

module _ (p : ConcentratorRow → Bool) where
  -- the rest begins with the item that is looked at
  rest-is : (cs : List ConcentratorRow) (i : ℕ) (c : ConcentratorRow) → i < length cs → c ≡ get_or cs i c
      → position_or_len p (drop i cs) ≡ cond (not (p c)) (1 + position_or_len p (drop (i + 1) cs)) 0
  rest-is cs i c there is =
      let rest : drop i cs ≡ c ∷ drop (i + 1) cs = drop_more cs i c there ∙ ap (λ z. z ∷ drop (i + 1) cs) (sym is) in
      ap (position_or_len p) rest

  first-le : (cs : List ConcentratorRow) → position_or_len p cs ≤ length cs
  first-le [] = omega arith
  first-le (c ∷ cs) =
      elim (p c) as (λ b. cond (not b) (1 + position_or_len p cs) 0 ≤ suc (length cs)) [
        | true ↦ omega arith
        | false ↦ omega (arith, first-le cs)
      ]

  -- one more does not pass
  pub number-step : (cs : List ConcentratorRow) (i : ℕ) (c : ConcentratorRow) → i < length cs → c ≡ get_or cs i c → p c ≡ false
      → (i + 1) + position_or_len p (drop (i + 1) cs) ≡ i + position_or_len p (drop i cs)
  number-step cs i c there is fails =
      let one : position_or_len p (drop i cs) ≡ 1 + position_or_len p (drop (i + 1) cs) = rest-is cs i c there is ∙ ap (λ b. cond (not b) (1 + position_or_len p (drop (i + 1) cs)) 0) fails in
      omega (arith, one)

  -- this one passes
  pub number-here : (cs : List ConcentratorRow) (i : ℕ) (c : ConcentratorRow) → i < length cs → c ≡ get_or cs i c → p c ≡ true → i ≡ i + position_or_len p (drop i cs)
  number-here cs i c there is passes =
      let none : position_or_len p (drop i cs) ≡ 0 = rest-is cs i c there is ∙ ap (λ b. cond (not b) (1 + position_or_len p (drop (i + 1) cs)) 0) passes in
      omega (arith, none)

-- it is where the first of this name stands
pub number-is : (cs : List ConcentratorRow) (name : List ℕ) → position_or_len (is_named name) cs ≡ number_in cs name
number-is cs name =
    elim (ltb (position_or_len (is_named name) cs) (length cs)) as (λ b. ltb (position_or_len (is_named name) cs) (length cs) ≡ b
    → position_or_len (is_named name) cs ≡ unwrap_or (cond b (Some (position_or_len (is_named name) cs)) None) (length cs)) [
      | true ↦ λ t. refl
      | false ↦ λ t. omega (arith, first-le (is_named name) cs, ltb-false (position_or_len (is_named name) cs) (length cs) t)
    ] refl
