-- Fields with a space between each two.
use Rattle.std.proofs.Common.{◌≡◌, ◌≢◌, ℕ, ◌+◌, ◌<◌, ◌≤◌, ◌^◌, ◌==◌, ◌&&◌, Bool, not, List, [], ◌∷◌, ◌++◌, length, true, refl, ap, ◌∙◌, decimal, arith, length-append}
use Rattle.std.proofs.lemmas.Bool.{and_parts, ne_eqb}
use Rattle.std.proofs.lemmas.Fmt.{digits_decimal}
use Rattle.std.proofs.lemmas.Str.Parse.{digit_from_value}
use Rattle.std.specs.List.{list_all}
use Rattle.std.specs.Str.Parse.{AllDigits}
use Rattle.dc_device.specs.Lines.{NoFeed}
use Rattle.dc_device.specs.lemmas.LineLemmas.{NoFeed-append}
use Rattle.dc_document.specs.Names.{IsSpelled, is_name_byte}
use Rattle.dc_event.specs.TraceText.{fields_of}
use Rattle.dc_seen.specs.lemmas.Digits.{own}

-- ---- fields

-- no byte is a space or a line feed
abbrev pub IsPlain : List ℕ → Type 0
IsPlain [] = Unit {0}
IsPlain (b ∷ bs) = (b ≢ 32) × (b ≢ 10) × IsPlain bs

abbrev pub ArePlain : List (List ℕ) → Type 0
ArePlain [] = Unit {0}
ArePlain (f ∷ fs) = IsPlain f × ArePlain fs

abbrev pub is_plain_byte : ℕ → Bool
is_plain_byte b = not (b == 32) && not (b == 10)

plain_byte : (b : ℕ) → is_plain_byte b ≡ true → (b ≢ 32) × (b ≢ 10)
plain_byte b is = ((λ e. (let g : is_plain_byte 32 ≡ true = rw e at is in absurd (cc))), (λ e. (let g : is_plain_byte 10 ≡ true = rw e at is in absurd (cc))))

-- a text that is written out
pub plain_text : (text : List ℕ) → list_all is_plain_byte text ≡ true → IsPlain text
plain_text [] is = tt
plain_text (b ∷ bs) is =
    let p = and_parts (is_plain_byte b) (list_all is_plain_byte bs) is in
    let here = plain_byte b p.0 in
    (here.0, here.1, plain_text bs p.1)

name_byte : (b : ℕ) → is_name_byte b ≡ true → (b ≢ 32) × (b ≢ 10)
name_byte b is = ((λ e. (let g : is_name_byte 32 ≡ true = rw e at is in absurd (cc))), (λ e. (let g : is_name_byte 10 ≡ true = rw e at is in absurd (cc))))

plain_bytes : (text : List ℕ) → list_all is_name_byte text ≡ true → IsPlain text
plain_bytes [] is = tt
plain_bytes (b ∷ bs) is =
    let p = and_parts (is_name_byte b) (list_all is_name_byte bs) is in
    let here = name_byte b p.0 in
    (here.0, here.1, plain_bytes bs p.1)

-- a name
pub plain_name : (text : List ℕ) → IsSpelled text → IsPlain text
plain_name text named = plain_bytes text named.each

plain_digits : (ds : List ℕ) → AllDigits 10 ds → IsPlain ds
plain_digits [] all = tt
plain_digits (d ∷ ds) all =
    let range = digit_from_value d all.0 in
    ((λ e. omega (arith, e, range)), (λ e. omega (arith, e, range)), plain_digits ds all.1)

-- the digits of a number
pub plain_decimal : (n : ℕ) → n < 2 ^ 64 → IsPlain (decimal n)
plain_decimal n small = plain_digits (decimal n) (digits_decimal own n small)

-- ---- the line of some fields

abbrev pub spaced : List (List ℕ) → List ℕ
spaced [] = []
spaced (f ∷ []) = f
spaced (f ∷ g ∷ fs) = f ++ 32 ∷ spaced (g ∷ fs)

fields_front : (f rest : List ℕ) → IsPlain f → fields_of (f ++ 32 ∷ rest) ≡ f ∷ fields_of rest
fields_front [] rest plain = refl
fields_front (b ∷ bs) rest plain = rw (ne_eqb b 32 plain.0, fields_front bs rest plain.2) refl

fields_last : (f : List ℕ) → IsPlain f → fields_of f ≡ f ∷ []
fields_last [] plain = refl
fields_last (b ∷ bs) plain = rw (ne_eqb b 32 plain.0, fields_last bs plain.2) refl

-- its fields are these
pub fields_spaced : (f : List ℕ) (fs : List (List ℕ)) → ArePlain (f ∷ fs) → fields_of (spaced (f ∷ fs)) ≡ f ∷ fs
fields_spaced f [] plain = fields_last f plain.0
fields_spaced f (g ∷ fs) plain = fields_front f (spaced (g ∷ fs)) plain.0 ∙ ap (λ l. f ∷ l) (fields_spaced g fs plain.1)

no_feed : (f : List ℕ) → IsPlain f → NoFeed f
no_feed [] plain = tt
no_feed (b ∷ bs) plain = (plain.1, no_feed bs plain.2)

-- it has no line feed
pub spaced_plain : (fs : List (List ℕ)) → ArePlain fs → NoFeed (spaced fs)
spaced_plain [] plain = tt
spaced_plain (f ∷ []) plain = no_feed f plain.0
spaced_plain (f ∷ g ∷ fs) plain = NoFeed-append f (32 ∷ spaced (g ∷ fs)) (no_feed f plain.0) ((λ e. omega (arith, e)), spaced_plain (g ∷ fs) plain.1)

-- and so many bytes at most
abbrev pub room_of : List (List ℕ) → ℕ
room_of [] = 0
room_of (f ∷ fs) = length f + 1 + room_of fs

pub spaced_short : (fs : List (List ℕ)) → length (spaced fs) ≤ room_of fs
spaced_short [] = omega arith
spaced_short (f ∷ []) = omega arith
spaced_short (f ∷ g ∷ fs) = omega (arith, length-append f (32 ∷ spaced (g ∷ fs)), spaced_short (g ∷ fs))
