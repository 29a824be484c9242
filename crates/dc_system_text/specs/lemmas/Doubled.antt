-- The first that is related to one before it, item by item.
use Rattle.std.proofs.Common.{◌≡◌, ℕ, suc, ◌+◌, ◌<◌, Bool, false, cond, Some, List, [], ◌∷◌, ◌++◌, length, map, take, drop, get_or, sym, ap, ◌∙◌, arith}
use Rattle.std.specs.List.{list_any}
use Rattle.std.proofs.lemmas.List.{drop_more, map_more}
use Rattle.dc_rules.specs.Rules.{doubled_from}

pub doubled-step : {X A : Type 0} (R : A → A → Bool) (f : X → A) (xs : List X) (i : ℕ) (x : X) → i < length xs → x ≡ get_or xs i x → list_any (R (f x)) (map f (take i xs)) ≡ false
    → doubled_from R (map f (take i xs)) i (map f (drop i xs)) ≡ doubled_from R (map f (take (i + 1) xs)) (i + 1) (map f (drop (i + 1) xs))
doubled-step R f xs i x there is none =
    let rest : drop i xs ≡ x ∷ drop (i + 1) xs = drop_more xs i x there ∙ ap (λ z. z ∷ drop (i + 1) xs) (sym is) in
    let same : suc i ≡ i + 1 = omega arith in
    let front : map f (take (i + 1) xs) ≡ map f (take i xs) ++ f x ∷ [] = map_more f xs i x there ∙ ap (λ z. map f (take i xs) ++ f z ∷ []) (sym is) in
    ap (λ z. doubled_from R (map f (take i xs)) i (map f z)) rest
    ∙ ap (λ b. cond b (Some i) (doubled_from R (map f (take i xs) ++ f x ∷ []) (suc i) (map f (drop (i + 1) xs)))) none
    ∙ ap (λ k. doubled_from R (map f (take i xs) ++ f x ∷ []) k (map f (drop (i + 1) xs))) same
    ∙ ap (λ z. doubled_from R z (i + 1) (map f (drop (i + 1) xs))) (sym front)
