-- A text that is padded with zeros is a name.
use Rattle.std.proofs.Common.{◌≡◌, ℕ, true, List, ◌++◌, length, replicate, drop, Some, sym, ap, ◌∙◌, subst}
use Rattle.std.proofs.lemmas.List.{drop-replicate}
use Rattle.dc_document.specs.Names.{is_spelled, IsSpelled, padded, text_of, IsName, name_of}
use Rattle.dc_document.specs.lemmas.Spelled.{IsSpelled-from_is_spelled, text_of-padded}

pub padded_is : (text : List ℕ) → is_spelled text ≡ true → IsName (padded text)
padded_is text h =
    let e : text_of (padded text) ≡ text = text_of-padded text h in
    record { spelled = subst IsSpelled (sym e) (IsSpelled-from_is_spelled text h); rest = ap padded (sym e) }

-- zeros over which a text is copied
pub filled : (text new : List ℕ) → new ≡ text → new ++ drop (length text) (replicate 16 0) ≡ padded text
filled text new e = ap (λ n. n ++ drop (length text) (replicate 16 0)) e ∙ ap (λ z. text ++ z) (drop-replicate (length text) 16 0)

pub name_is : (text bytes : List ℕ) → is_spelled text ≡ true → bytes ≡ padded text → Some bytes ≡ name_of text
name_is text bytes h e = rw (h) (ap Some e)
