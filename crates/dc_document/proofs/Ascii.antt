-- A name's text is UTF-8.
use Rattle.std.proofs.Common.{◌≡◌, ℕ, ◌<◌, true, List, length, get_or, Result, Ok, Err, refl, inl, inr, arith}
use Rattle.std.specs.Prelude.{MatchResult}
use Rattle.std.specs.Result.{IsOk}
use Rattle.std.specs.Str.{IsAscii, IsUtf8}
use Rattle.std.proofs.lemmas.Bool.{cases_lt}
use Rattle.std.proofs.lemmas.Bool.Decides.{nat_tests}
use Rattle.std.proofs.lemmas.List.{get_or_past}
use Rattle.std.proofs.lemmas.List.Sums.{AllPass-from_list_all}
use Rattle.std.proofs.lemmas.Str.{IsUtf8-from_ascii}
use Rattle.dc_document.specs.Names.{is_name_byte, IsSpelled}

name_byte-ascii : (c : ℕ) → is_name_byte c ≡ true → c < 128
name_byte-ascii c h = elim (cases_lt c 128) [ inl l ↦ l | inr g ↦ absurd (grind (arith, nat_tests)) ]

name-is_ascii : (text : List ℕ) → IsSpelled text → IsAscii text
name-is_ascii text named i =
    elim (cases_lt i (length text)) [
      | inl l ↦ name_byte-ascii (get_or text i 0) (AllPass-from_list_all is_name_byte text named.each i 0 l)
      | inr g ↦ omega (arith, get_or_past text i 0 g)
    ]

pub name-is_utf8 : (text : List ℕ) → IsSpelled text → IsUtf8 text
name-is_utf8 text named = IsUtf8-from_ascii text (name-is_ascii text named)

-- what is UTF-8 is read as text
pub utf8-is_ok : {T E : Type 0} (bytes : List ℕ) (P : T → Type 0) (Q : E → Type 0) (r : Result T E) → MatchResult r P (λ e. ¬ IsUtf8 bytes × Q e) → IsUtf8 bytes → IsOk r
utf8-is_ok bytes P Q (Ok s) h utf8 = refl
utf8-is_ok bytes P Q (Err e) h utf8 = absurd (h.0 utf8)
