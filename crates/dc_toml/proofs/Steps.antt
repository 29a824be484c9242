-- How a reading goes on, step by step.
use Rattle.std.proofs.Common.{◌≡◌, ℕ, ◌≤◌, List, [], ◌∷◌, ◌++◌, length, Bool, true, false, ◌&&◌, nat_le, cond, Some, None, Ok, Err, refl, arith}
use Rattle.std.proofs.lemmas.Bool.Decides.{nat_tests}
use Rattle.std.proofs.lemmas.Str.{is_utf8-from_IsUtf8, IsUtf8-from_is_utf8}
use Rattle.std.specs.Str.{IsUtf8, is_utf8}
use Rattle.toml.specs.Data.{Members}
use Rattle.toml.specs.Parse.{parse_document}
use Rattle.toml.specs.View.{items_view}
use Rattle.toml.specs.declared.value.Value.{Value}
use Rattle.dc_document.specs.declared.fault.TableRule.TheVariants.{NotToml}
use Rattle.dc_toml.specs.Faults.{Reading, refused, found}
use Rattle.dc_toml.specs.Keys.{items_len}
use Rattle.dc_toml.specs.Reading.{top, document_of}

-- these before the rest
abbrev pub with_front : {A : Type 0} → List A → Reading (List A) → Reading (List A)
with_front front (Ok rest) = Ok (front ++ rest)
with_front front (Err fault) = Err fault

pub count_of : (vs : List Value) → length vs ≡ items_len (items_view vs)
count_of [] = refl
count_of (v ∷ vs) = omega (arith, count_of vs)

-- ---- the document

at_most : (n m : ℕ) → n ≤ m → nat_le n m ≡ true
at_most n m h = grind (arith, nat_tests)

pub document_good : (text : List ℕ) (ms : Members) → length text ≤ 1048576 → IsUtf8 text → parse_document text ≡ Some ms → document_of text ≡ Ok ms
unfolding document_of
document_good text ms short utf8 e = rw (at_most (length text) 1048576 short, is_utf8-from_IsUtf8 text utf8, e) refl

refused_either : (a b : Bool) (text : List ℕ) → (b ≡ true → parse_document text ≡ None) → cond (a && b) (found top NotToml (parse_document text)) (refused top NotToml) ≡ refused top NotToml
refused_either true true text h = rw (h refl) refl
refused_either true false text h = refl
refused_either false b text h = refl

pub document_bad : (text : List ℕ) → (IsUtf8 text → parse_document text ≡ None) → document_of text ≡ refused top NotToml
unfolding document_of
document_bad text h = refused_either (nat_le (length text) 1048576) (is_utf8 text) text (λ e. h (IsUtf8-from_is_utf8 text e))
