-- A time read digit by digit.
use Rattle.std.proofs.Common.{◌≡◌, ℕ, ◌+◌, ◌*◌, ◌%◌, ◌^◌, ◌≤◌, ◌<◌, List, [], ◌∷◌, ◌++◌, length, get_or, take, drop, drop_of_length-le, Option, Some, None, option_and_then, refl, sym, ap, ◌∙◌, arith}
use Rattle.std.proofs.lemmas.Bool.{le-ltb, lt-ltb, ne_eqb}
use Rattle.std.proofs.lemmas.Grind.{pow_more}
use Rattle.std.proofs.lemmas.List.{drop_more, take_more}
use Rattle.std.proofs.lemmas.Str.{digit_value_digit}
use Rattle.std.proofs.Math.Nat.{pow-le-pow_right}
use Rattle.std.specs.Char.{digit_value}
use Rattle.dc_word.specs.Digits.{digit_in}
use Rattle.dc_capture.specs.TimeText.{decimal_behind, time_of, up_to_last}
use Rattle.dc_capture.specs.declared.time.TheConstants.{LAST_TIME}

-- more digits make no lesser number
digit_grows : (n m : ℕ) (d : Option ℕ) (rest : ℕ → Option ℕ) → ((e : ℕ) → rest (n * 10 + e) ≡ Some m → n * 10 + e ≤ m) → option_and_then (λ e. rest (n * 10 + e)) d ≡ Some m → n ≤ m
digit_grows n m None rest grow is = absurd (cc)
digit_grows n m (Some d) rest grow is = omega (arith, grow d is)

grows : (n m : ℕ) (text : List ℕ) → decimal_behind n text ≡ Some m → n ≤ m
grows n m [] is = (let e : n ≡ m = cc in omega (arith, e))
grows n m (c ∷ cs) is = digit_grows n m (digit_in 10 c) (λ k. decimal_behind k cs) (λ e more. grows (n * 10 + e) m cs more) is

past_last : (n : ℕ) (time : Option ℕ) → LAST_TIME < n → ((m : ℕ) → time ≡ Some m → n ≤ m) → option_and_then (λ m. up_to_last m) time ≡ None
past_last n None late grow = refl
past_last n (Some m) late grow = rw (lt-ltb LAST_TIME m (omega (arith, late, grow m refl))) refl

-- the digits from here on write the rest of the number
abbrev pub Goes : ℕ → ℕ → List ℕ → Type 0
Goes n i text = decimal_behind n (drop i text) ≡ decimal_behind 0 text

here : (n i c : ℕ) (text : List ℕ) → i < length text → c ≡ get_or text i 0 → Goes n i text → option_and_then (λ d. decimal_behind (n * 10 + d) (drop (i + 1) text)) (digit_in 10 c) ≡ decimal_behind 0 text
here n i c text there is goes =
    sym (ap (decimal_behind n) (drop_more text i 0 there ∙ ap (λ b. b ∷ drop (i + 1) text) (sym is))) ∙ goes

pub goes_on : (n i c d : ℕ) (text : List ℕ) → i < length text → c ≡ get_or text i 0 → digit_in 10 c ≡ Some d → Goes n i text → Goes (n * 10 + d) (i + 1) text
goes_on n i c d text there is digit goes =
    ap (option_and_then (λ d. decimal_behind (n * 10 + d) (drop (i + 1) text))) (sym digit) ∙ here n i c text there is goes

some_text : (text : List ℕ) → 1 ≤ length text → time_of text ≡ option_and_then (λ m. up_to_last m) (decimal_behind 0 text)
unfolding time_of
some_text text some = rw (ne_eqb (length text) 0 (λ e. omega (arith, e, some))) refl

pub no_digit : (n i c : ℕ) (text : List ℕ) → i < length text → c ≡ get_or text i 0 → digit_in 10 c ≡ None → Goes n i text → time_of text ≡ None
no_digit n i c text there is digit goes =
    let none : decimal_behind 0 text ≡ None = sym (here n i c text there is goes) ∙ ap (option_and_then (λ d. decimal_behind (n * 10 + d) (drop (i + 1) text))) digit in
    some_text text (omega (arith, there)) ∙ ap (option_and_then (λ m. up_to_last m)) none

pub too_late : (n i : ℕ) (text : List ℕ) → 1 ≤ length text → LAST_TIME < n → Goes n i text → time_of text ≡ None
too_late n i text some late goes =
    some_text text some ∙ past_last n (decimal_behind 0 text) late (λ m is. grows n m (drop i text) (goes ∙ is))

pub read_whole : (n i : ℕ) (text : List ℕ) → 1 ≤ length text → length text ≤ i → n ≤ LAST_TIME → Goes n i text → time_of text ≡ Some n
read_whole n i text some end small goes =
    let whole : decimal_behind 0 text ≡ Some n = sym goes ∙ ap (decimal_behind n) (drop_of_length-le text end) in
    some_text text some ∙ ap (option_and_then (λ m. up_to_last m)) whole ∙ (rw (le-ltb LAST_TIME n small) refl)

-- digits that are a time
pub whole_time : (time : ℕ) (text : List ℕ) → 1 ≤ length text → time ≤ LAST_TIME → decimal_behind 0 text ≡ Some time → time_of text ≡ Some time
whole_time time text some small reads = some_text text some ∙ ap (option_and_then (λ m. up_to_last m)) reads ∙ (rw (le-ltb LAST_TIME time small) refl)

-- one digit more
digit-more : (n c d time : ℕ) (first : Option ℕ) (rest : ℕ → Option ℕ) (longer : ℕ → Option ℕ) → ((e : ℕ) → rest e ≡ Some time → longer e ≡ Some (time * 10 + d)) → option_and_then (λ e. rest (n * 10 + e)) first ≡ Some time
    → option_and_then (λ e. longer (n * 10 + e)) first ≡ Some (time * 10 + d)
digit-more n c d time None rest longer more is = absurd (cc)
digit-more n c d time (Some e) rest longer more is = more (n * 10 + e) is

decimal-push : (n time c d : ℕ) (xs : List ℕ) → decimal_behind n xs ≡ Some time → digit_in 10 c ≡ Some d → decimal_behind n (xs ++ c ∷ []) ≡ Some (time * 10 + d)
decimal-push n time c d [] reads digit =
    let e : n ≡ time = cc in
    ap (option_and_then (λ d. Some (n * 10 + d))) digit ∙ ap (λ k. Some (k * 10 + d)) e
decimal-push n time c d (x ∷ xs) reads digit =
    digit-more n c d time (digit_in 10 x) (λ k. decimal_behind k xs) (λ k. decimal_behind k (xs ++ c ∷ [])) (λ e more. decimal-push e time c d xs more digit) reads

pub digits-more : (time i c d : ℕ) (text : List ℕ) → i < length text → c ≡ get_or text i 0 → digit_in 10 c ≡ Some d → decimal_behind 0 (take i text) ≡ Some time → decimal_behind 0 (take (i + 1) text) ≡ Some (time * 10 + d)
digits-more time i c d text there is digit reads =
    ap (decimal_behind 0) (take_more text i 0 there ∙ ap (λ b. take i text ++ b ∷ []) (sym is)) ∙ decimal-push 0 time c d (take i text) reads digit

-- ---- digits as bytes

-- a byte less the one of the digit 0, round 256, is its value where that is less than ten
pub byte_value : (c v : ℕ) → c < 256 → v ≡ (c + 208) % 256 → v < 10 → digit_in 10 c ≡ Some v
byte_value c v byte is small =
    let low : 48 ≤ c = omega (arith, byte, is, small) in
    let high : c ≤ 57 = omega (arith, byte, is, small) in
    let worth : digit_value c + 48 ≡ c = digit_value_digit c (low, high) in
    let e : digit_value c ≡ v = omega (arith, worth, byte, is, small) in
    rw (lt-ltb (digit_value c) 10 (omega (arith, e, small))) (ap Some e)

-- a number of so many digits
pub fits_digits : (time i : ℕ) → time < 10 ^ i → i ≤ 16 → time < 10000000000000000
fits_digits time i small few =
    let h : 10 ^ i ≤ 10 ^ 16 = pow-le-pow_right (omega arith) few in
    omega (arith, h, small)

pub more_digits : (time d i : ℕ) → time < 10 ^ i → d < 10 → time * 10 + d < 10 ^ (i + 1)
more_digits time d i small digit = rw (pow_more 10 i) (omega (arith, small, digit))
