-- A text that is spelled as a name is the text of the name that is made of it.
use Rattle.std.proofs.Common.{◌≡◌, ℕ, zero, suc, ◌+◌, ◌-◌, ◌≤◌, Bool, true, false, cond, ◌&&◌, nat_le, List, [], ◌∷◌, ◌++◌, length, take_while, replicate, Some, None, refl, sym, ap, ◌∙◌, arith}
use Rattle.std.specs.List.{list_all, prefix_len}
use Rattle.std.proofs.lemmas.Bool.Decides.{nat_tests}
use Rattle.dc_document.specs.Names.{is_name_byte, is_spelled, IsSpelled, padded, text_of, name_of}
use Rattle.dc_document.specs.declared.limits.TheConstants.{NAME_LIMIT}

both : (a b : Bool) → (a && b) ≡ true → (a ≡ true) × (b ≡ true)
both true b h = (refl, h)
both false b h = absurd (cc h)

zeros_end : (k : ℕ) → take_while is_name_byte (replicate k 0) ≡ []
zeros_end zero = refl
zeros_end (suc k) = refl

taken : (text : List ℕ) (k : ℕ) → list_all is_name_byte text ≡ true → take_while is_name_byte (text ++ replicate k 0) ≡ text
taken [] k h = zeros_end k
taken (c ∷ text) k h =
    let w = both (is_name_byte c) (list_all is_name_byte text) h in
    let more = prefix_len is_name_byte (text ++ replicate k 0) in
    let e : 1 + more ≡ suc more = omega arith in
    rw (w.0, e) (ap (λ r. c ∷ r) (taken text k w.1))

le_true : (a b : ℕ) → nat_le a b ≡ true → a ≤ b
le_true a b h = grind (arith, nat_tests)

true_le : (a b : ℕ) → a ≤ b → nat_le a b ≡ true
true_le a b h = grind (arith, nat_tests)

-- what the test passes is spelled as a name, and what is spelled so passes it
pub IsSpelled-from_is_spelled : (text : List ℕ) → is_spelled text ≡ true → IsSpelled text
IsSpelled-from_is_spelled text h =
    let w = both (nat_le 1 (length text) && nat_le (length text) NAME_LIMIT) (list_all is_name_byte text) h in
    let v = both (nat_le 1 (length text)) (nat_le (length text) NAME_LIMIT) w.0 in
    record { some = le_true 1 (length text) v.0; most = le_true (length text) NAME_LIMIT v.1; each = w.1 }

pub is_spelled-from_IsSpelled : (text : List ℕ) → IsSpelled text → is_spelled text ≡ true
is_spelled-from_IsSpelled text s = rw (true_le 1 (length text) s.some, true_le (length text) NAME_LIMIT s.most) s.each

-- the text of the name that is made of it
pub text_of-padded : (text : List ℕ) → is_spelled text ≡ true → text_of (padded text) ≡ text
text_of-padded text h = taken text (NAME_LIMIT - length text) (IsSpelled-from_is_spelled text h).each

-- where a name is made, the text is spelled so and is its text; where none is, it is not
some_name : (b : Bool) (name made : List ℕ) → cond b (Some made) None ≡ Some name → (b ≡ true) × (made ≡ name)
some_name true name made h = (refl, cc h)
some_name false name made h = absurd (cc h)

pub text_of-name_of : (text name : List ℕ) → name_of text ≡ Some name → (is_spelled text ≡ true) × (text_of name ≡ text)
text_of-name_of text name h =
    let w = some_name (is_spelled text) name (padded text) h in
    (w.0, sym (ap text_of w.1) ∙ text_of-padded text w.0)

no_name : (b : Bool) (made : List ℕ) → cond b (Some made) None ≡ None → b ≡ false
no_name true made h = absurd (cc h)
no_name false made h = refl

pub not_spelled-from_name_of : (text : List ℕ) → name_of text ≡ None → is_spelled text ≡ false
not_spelled-from_name_of text h = no_name (is_spelled text) (padded text) h
