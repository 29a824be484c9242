-- What was read so far, before the rest.
use Rattle.std.proofs.Common.{◌≡◌, ℕ, suc, ◌+◌, ◌<◌, ◌≤◌, List, [], ◌∷◌, ◌++◌, Ok, Err, length, drop, get_or, refl, sym, ap, ◌∙◌, subst, arith, inl, inr}
use Rattle.std.proofs.lemmas.Bool.{cases_lt}
use Rattle.std.proofs.lemmas.List.{append_assoc, drop_more, length_push, get_or_append_left, get_or_push}
use Rattle.toml.specs.Data.{Data}
use Rattle.toml.specs.View.{view, items_view}
use Rattle.toml.specs.declared.value.Value.{Value}
use Rattle.dc_order.specs.declared.limits.TheConstants.{LONGEST_LATENCY}
use Rattle.dc_system_text.specs.Faults.{Said, and_then}
use Rattle.dc_system_text.specs.System.{AreShort, each_at}
use Rattle.dc_system_text.specs.declared.parts.LinkText.{LinkText}

abbrev pub with_front : {A : Type 0} → List A → Said (List A) → Said (List A)
with_front front (Ok rest) = Ok (front ++ rest)
with_front front (Err fault) = Err fault

-- one more is read
front-cases : {A : Type 0} (front : List A) (x : A) (r : Said (List A)) → with_front (front ++ x ∷ []) r ≡ with_front front (and_then r (λ xs. Ok (x ∷ xs)))
front-cases front x (Ok ys) = ap (λ z. Ok z) (append_assoc front (x ∷ []) ys)
front-cases front x (Err fault) = refl

pub front-more : {A : Type 0} (one : ℕ → Data → Said A) (front : List A) (i : ℕ) (vs : List Value) (v : Value) (x : A) → i < length vs → v ≡ get_or vs i v → one i (view v) ≡ Ok x
    → with_front (front ++ x ∷ []) (each_at one (i + 1) (items_view (drop (i + 1) vs))) ≡ with_front front (each_at one i (items_view (drop i vs)))
front-more one front i vs v x there is said =
    let rest : drop i vs ≡ v ∷ drop (i + 1) vs = drop_more vs i v there ∙ ap (λ z. z ∷ drop (i + 1) vs) (sym is) in
    let same : i + 1 ≡ suc i = omega arith in
    front-cases front x (each_at one (i + 1) (items_view (drop (i + 1) vs)))
    ∙ ap (λ k. with_front front (and_then (each_at one k (items_view (drop (i + 1) vs))) (λ xs. Ok (x ∷ xs)))) same
    ∙ ap (λ r. with_front front (and_then r (λ x. and_then (each_at one (suc i) (items_view (drop (i + 1) vs))) (λ xs. Ok (x ∷ xs))))) (sym said)
    ∙ ap (λ z. with_front front (each_at one i (items_view z))) (sym rest)

-- one link more
pub short-more : (links : List LinkText) (one : LinkText) → AreShort links → one.most_us ≤ LONGEST_LATENCY → AreShort (links ++ one ∷ [])
short-more links one all short k d there =
    let P : LinkText → Type 0 = λ l. l.most_us ≤ LONGEST_LATENCY in
    elim (cases_lt k (length links)) [
      | inl before ↦ subst P (sym (get_or_append_left links (one ∷ []) d k before)) (all k d before)
      | inr not ↦ subst P (sym (get_or_push links one d k (omega (arith, there, not, length_push links one)))) short
    ]
