-- A page that is written.
use Rattle.std.proofs.Common.{◌≡◌, ℕ, List, [], ◌∷◌, ◌++◌, Option, Result, Ok, Err, append_assoc, subst, sym}
use Rattle.dc_device.specs.Bytes.{AppendsFront, Gathered, Writes}
use Rattle.dc_answer.specs.lemmas.Endings.{writes_after}

-- its two parts are its line
pub page_line : (page line more front back : List ℕ) → page ≡ line ++ more → front ≡ line → back ≡ more → front ++ (back ++ 10 ∷ []) ≡ page ++ 10 ∷ []
page_line page line more front back is f b = rw (is, f, b) (sym (append_assoc line more (10 ∷ [])))

pub page_written : {T E : Type 0} (r s t : Option (List ℕ)) (waiting waits xs ys : List ℕ) (result : Result T E) → xs ≡ ys → Gathered r waiting s waits xs → Writes s t waits result
    → Writes r t (waiting ++ ys) result
page_written r s t waiting waits xs ys result same p q = subst (λ l. Writes r t (waiting ++ l) result) same (writes_after r s t waiting waits xs result p q)

pub page_cut : {T E : Type 0} (r s : Option (List ℕ)) (waiting xs ys : List ℕ) (result : Result T E) (e : E) → xs ≡ ys → result ≡ Err e → AppendsFront r s (waiting ++ xs)
    → Writes r s (waiting ++ ys) result
page_cut r s waiting xs ys result e same is p = rw is (subst (λ l. AppendsFront r s (waiting ++ l)) same p)
