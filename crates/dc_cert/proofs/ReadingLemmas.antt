-- How a reading goes on, step by step.
use Rattle.std.proofs.Common.{◌≡◌, ℕ, ◌≤◌, ◌<◌, List, ◌++◌, length, Bool, true, false, ◌&&◌, nat_le, Option, Some, None, Ok, Err, refl, sym, arith, cond}
use Rattle.std.proofs.lemmas.Bool.Decides.{nat_tests}
use Rattle.std.proofs.lemmas.Str.{is_utf8-from_IsUtf8, IsUtf8-from_is_utf8}
use Rattle.std.specs.Str.{IsUtf8, is_utf8}
use Rattle.serde_json.specs.Data.{Data, Items}
use Rattle.serde_json.specs.Read.{read}
use Rattle.serde_json.specs.View.{items_view}
use Rattle.serde_json.specs.declared.value.Value.{Value}
use Rattle.serde_json.proofs.Views.{items_len-items_view}
use Rattle.dc_cert.specs.declared.fault.CertRule.TheVariants.{NotJson, ListOrNameOutOfBounds}
use Rattle.dc_cert.specs.declared.fault.TextPlace.{TextPlace}
use Rattle.dc_cert.specs.declared.fault.TextPlace.TheVariants.{Top}
use Rattle.dc_cert.specs.Reading.{Reading, refused, found, name_in, list_in, document_of}
use Rattle.dc_document.specs.Names.{text_of, name_of}
use Rattle.dc_document.specs.lemmas.Spelled.{text_of-name_of}

-- ---- the rows of a list

-- these before the rest
abbrev pub with_front : {A : Type 0} → List A → Reading (List A) → Reading (List A)
with_front front (Ok rest) = Ok (front ++ rest)
with_front front (Err fault) = Err fault

-- ---- the names

pub name_found : (place : TextPlace) (text bytes name : List ℕ) → bytes ≡ text → Some name ≡ name_of bytes → Ok (text_of name) ≡ name_in place (Some text)
name_found place text bytes name same h =
    let named = text_of-name_of bytes name (sym h) in
    rw (← same, named.0, named.1) refl

-- ---- the lists

at_most : (n m : ℕ) → n ≤ m → nat_le n m ≡ true
at_most n m h = grind (arith, nat_tests)

above : (n m : ℕ) → m < n → nat_le n m ≡ false
above n m h = grind (arith, nat_tests)

pub list_short : (o : Option Items) (vs : List Value) → Some (items_view vs) ≡ o → length vs ≤ 1024 → Ok (items_view vs) ≡ list_in o
list_short o vs e short = rw (← e, items_len-items_view vs, at_most (length vs) 1024 short) refl

pub list_long : (o : Option Items) (vs : List Value) → Some (items_view vs) ≡ o → 1024 < length vs → Err (record { rule = ListOrNameOutOfBounds; place = Top }) ≡ list_in o
list_long o vs e long = rw (← e, items_len-items_view vs, above (length vs) 1024 long) refl

-- ---- the document

pub document_good : (text : List ℕ) (d : Data) → length text ≤ 1048576 → IsUtf8 text → read text ≡ Some d → document_of text ≡ Ok d
unfolding document_of
document_good text d short utf8 e = rw (at_most (length text) 1048576 short, is_utf8-from_IsUtf8 text utf8, e) refl

refused_either : (a b : Bool) (text : List ℕ) → (b ≡ true → read text ≡ None) → cond (a && b) (found (read text) NotJson Top) (refused NotJson Top) ≡ refused NotJson Top
refused_either true true text h = rw (h refl) refl
refused_either true false text h = refl
refused_either false b text h = refl

pub document_bad : (text : List ℕ) → (IsUtf8 text → read text ≡ None) → document_of text ≡ refused NotJson Top
unfolding document_of
document_bad text h = refused_either (nat_le (length text) 1048576) (is_utf8 text) text (λ e. h (IsUtf8-from_is_utf8 text e))
