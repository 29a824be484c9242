-- Texts that are the digits of a number, and texts that are not.
use Rattle.std.proofs.Common.{◌≡◌, ℕ, ◌+◌, ◌-◌, ◌*◌, ◌<◌, ◌≤◌, ◌^◌, ◌&&◌, true, false, List, [], ◌∷◌, length, get_or, drop, Some, None, nat_lt, decimal, sym, ap, ◌∙◌, subst, arith}
use Rattle.std.specs.Char.{digit_value}
use Rattle.std.proofs.lemmas.Bool.{and_parts, both_ways, cond-false, false_from_ne_true, ltb-true}
use Rattle.std.proofs.lemmas.Fmt.{digits_decimal, digits_value-decimal}
use Rattle.std.proofs.lemmas.List.{at_drop_all, drop_more}
use Rattle.std.proofs.lemmas.Slice.Eq.{bytes_eq-Decides}
use Rattle.std.proofs.lemmas.Str.{digit_value_digit}
use Rattle.std.proofs.lemmas.Str.Parse.{digit_from_value}
use Rattle.std.specs.Str.Parse.{AllDigits, digits_value, digits_value_after}
use Rattle.dc_seen.specs.Numbers.{is_decimal, number_if, number_of}
use Rattle.dc_seen.specs.lemmas.Digits.{number_is, own}

if_not : (text : List ℕ) (n : ℕ) → (n < 2 ^ 64 → text ≡ decimal n → ⊥) → number_if text n ≡ None
if_not text n other =
    cond-false (nat_lt n (2 ^ 64) && is_decimal text n) (Some n) None (false_from_ne_true (nat_lt n (2 ^ 64) && is_decimal text n) (λ e.
    let p = and_parts (nat_lt n (2 ^ 64)) (is_decimal text n) e in
    other (ltb-true n (2 ^ 64) p.0) ((bytes_eq-Decides text (decimal n)).0 p.1)))

-- a text that is no number's digits is none
no_number : (text : List ℕ) → ((n : ℕ) → n < 2 ^ 64 → text ≡ decimal n → ⊥) → number_of text ≡ None
unfolding number_of
no_number text other = if_not text (digits_value 10 text) (other (digits_value 10 text))

-- a text that is not what is printed of its worth is no number
pub not_printed : (text : List ℕ) (m : ℕ) → (AllDigits 10 text → digits_value 10 text < 2 ^ 64 → m ≡ digits_value 10 text) → is_decimal text m ≡ false → None ≡ number_of text
not_printed text m worth otherwise = sym (no_number text (λ n small spelled.
    let digits : AllDigits 10 text = subst (AllDigits 10) (sym spelled) (digits_decimal own n small) in
    let value : digits_value 10 text ≡ n = ap (digits_value 10) spelled ∙ digits_value-decimal own n small in
    let one : n ≡ m = sym value ∙ sym (worth digits (subst (λ (v : ℕ). v < 2 ^ 64) (sym value) small)) in
    both_ways (is_decimal text m) otherwise ((bytes_eq-Decides text (decimal m)).1 (spelled ∙ ap decimal one))))

-- one that is printed so is read so
pub printed : (text : List ℕ) (m : ℕ) → m < 2 ^ 64 → is_decimal text m ≡ true → Some m ≡ number_of text
printed text m small is = sym (number_is text m small ((bytes_eq-Decides text (decimal m)).0 is))

-- ---- what digits are worth

-- this number, with these digits behind it, is the whole
abbrev pub IsWorth : ℕ → List ℕ → ℕ → Type 0
IsWorth number rest whole = AllDigits 10 rest × (digits_value_after 10 number rest ≡ whole)

grown : (n : ℕ) (ds : List ℕ) → n ≤ digits_value_after 10 n ds
grown n [] = omega arith
grown n (d ∷ ds) = omega (arith, grown (n * 10 + digit_value d) ds)

one_digit : (number byte : ℕ) (rest : List ℕ) (whole : ℕ) → whole < 2 ^ 64 → IsWorth number (byte ∷ rest) whole → (48 ≤ byte) × (number * 10 + (byte - 48) < 2 ^ 64) × IsWorth (number * 10 + (byte - 48)) rest whole
one_digit number byte rest whole small ((low, digits), is) =
    let range = digit_from_value byte low in
    let same : digit_value byte ≡ byte - 48 = omega (arith, digit_value_digit byte range, range.0) in
    let here : digits_value_after 10 (number * 10 + (byte - 48)) rest ≡ whole = subst (λ (d : ℕ). digits_value_after 10 (number * 10 + d) rest ≡ whole) same is in
    (range.0, omega (arith, grown (number * 10 + (byte - 48)) rest, here, small), (digits, here))

-- one digit more
pub worth_more : (text : List ℕ) (i byte number more whole : ℕ) → i < length text → byte ≡ get_or text i 0 → (48 ≤ byte → number * 10 + (byte - 48) < 2 ^ 64 → more ≡ number * 10 + (byte - 48)) → whole < 2 ^ 64
    → IsWorth number (drop i text) whole → IsWorth more (drop (i + 1) text) whole
worth_more text i byte number more whole there is told small before =
    let here : IsWorth number (byte ∷ drop (i + 1) text) whole = subst (λ (b : ℕ). IsWorth number (b ∷ drop (i + 1) text) whole) (sym is) (subst (λ (l : List ℕ). IsWorth number l whole) (drop_more text i 0 there) before) in
    let (low, fits, rest) = one_digit number byte (drop (i + 1) text) whole small here in
    subst (λ (n : ℕ). IsWorth n (drop (i + 1) text) whole) (sym (told low fits)) rest

-- all of them
pub worth_all : (text : List ℕ) (i number whole : ℕ) → length text ≤ i → IsWorth number (drop i text) whole → number ≡ whole
worth_all text i number whole past before = sym (at_drop_all (digits_value_after 10 number) text i past) ∙ before.1
