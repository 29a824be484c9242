-- Lines that stand whole among bytes.
use Rattle.std.proofs.Common.{◌≡◌, ◌≢◌, ℕ, ◌+◌, ◌-◌, ◌*◌, ◌<◌, ◌≤◌, ◌==◌, ◌&&◌, Bool, true, false, cond, List, [], ◌∷◌, ◌++◌, length, length-append, length-take, length-drop, take, take_all, drop, get_or, take-append-drop, append_assoc, refl, sym, ap, ◌∙◌, arith, Option, Some, None, Ok, option_and_then}
use Rattle.std.proofs.lemmas.Bool.{le-ltb, ne_eqb}
use Rattle.std.proofs.lemmas.Bool.Decides.{nat_tests}
use Rattle.std.proofs.lemmas.List.{drop_more}
use Rattle.std.specs.List.{list_all}
use Rattle.std.specs.Prelude.{nat_le}
use Rattle.dc_word.specs.Digits.{digit_in}
use Rattle.dc_device.specs.Lines.{NoFeed}
use Rattle.dc_device.specs.lemmas.LineLemmas.{NoFeed-append}
use Rattle.dc_document.specs.Names.{is_name_byte, is_spelled, number_of, padded}
use Rattle.dc_document.specs.declared.limits.TheConstants.{NAME_LIMIT}
use Rattle.dc_tables.specs.TableRows.{TableRows}
use Rattle.dc_event.specs.TraceText.{fields_of, number_named}
use Rattle.dc_event.specs.WordText.{number_behind, word_of}
use Rattle.dc_capture.specs.Ahead.{HasSpace, StartsWithLine, StartsWithTime, StartsWithWord}
use Rattle.dc_capture.specs.CaptureText.{fields_word, judged, line_word}
use Rattle.dc_capture.specs.TimeText.{decimal_behind, time_of, up_to_last}

-- ---- fields

-- no byte is a space
abbrev NoSpace : List ℕ → Type 0
NoSpace [] = Unit {0}
NoSpace (b ∷ bs) = (b ≢ 32) × NoSpace bs

not_space : (c : ℕ) → c ≢ 32 → (c == 32) ≡ false
not_space c other = grind (arith, nat_tests)

one_field : (text : List ℕ) → NoSpace text → fields_of text ≡ text ∷ []
one_field [] p = refl
one_field (c ∷ cs) (other, more) = rw (not_space c other, one_field cs more) refl

field_before : (text rest : List ℕ) → NoSpace text → fields_of (text ++ 32 ∷ rest) ≡ text ∷ fields_of rest
field_before [] rest p = refl
field_before (c ∷ cs) rest (other, more) = rw (not_space c other, field_before cs rest more) refl

-- ---- digits and names have neither spaces nor line feeds

-- bytes that are neither
abbrev Plain : List ℕ → Type 0
Plain [] = Unit {0}
Plain (b ∷ bs) = (b ≢ 32) × (b ≢ 10) × Plain bs

plain_space : (xs : List ℕ) → Plain xs → NoSpace xs
plain_space [] p = tt
plain_space (x ∷ xs) (space, feed, more) = (space, plain_space xs more)

plain_feed : (xs : List ℕ) → Plain xs → NoFeed xs
plain_feed [] p = tt
plain_feed (x ∷ xs) (space, feed, more) = (feed, plain_feed xs more)

next_digit : (d : Option ℕ) (f : ℕ → Option ℕ) (w : ℕ) (P : Type 0) → option_and_then f d ≡ Some w → ((e : ℕ) → f e ≡ Some w → P) → P
next_digit None f w P e k = cc
next_digit (Some d) f w P e k = k d e

hex_no_space : (n c w : ℕ) (cs : List ℕ) → number_behind n (c ∷ cs) ≡ Some w → c ≢ 32
hex_no_space n c w cs e f = let g : number_behind n (32 ∷ cs) ≡ Some w = rw f at e in cc

hex_no_feed : (n c w : ℕ) (cs : List ℕ) → number_behind n (c ∷ cs) ≡ Some w → c ≢ 10
hex_no_feed n c w cs e f = let g : number_behind n (10 ∷ cs) ≡ Some w = rw f at e in cc

hex_plain : (n w : ℕ) (text : List ℕ) → number_behind n text ≡ Some w → Plain text
hex_plain n w [] e = tt
hex_plain n w (c ∷ cs) e = (
  hex_no_space n c w cs e,
  hex_no_feed n c w cs e,
  next_digit (digit_in 16 c) (λ d. number_behind (n * 16 + d) cs) w (Plain cs) e (λ d is. hex_plain (n * 16 + d) w cs is),
)

word_plain : (w : ℕ) (text : List ℕ) → length text ≡ 8 → word_of text ≡ Some w → Plain text
unfolding word_of
word_plain w text e f = hex_plain 0 w text (rw e at f)

digit_no_space : (n c w : ℕ) (cs : List ℕ) → decimal_behind n (c ∷ cs) ≡ Some w → c ≢ 32
digit_no_space n c w cs e f = let g : decimal_behind n (32 ∷ cs) ≡ Some w = rw f at e in cc

digit_no_feed : (n c w : ℕ) (cs : List ℕ) → decimal_behind n (c ∷ cs) ≡ Some w → c ≢ 10
digit_no_feed n c w cs e f = let g : decimal_behind n (10 ∷ cs) ≡ Some w = rw f at e in cc

decimal_plain : (n w : ℕ) (text : List ℕ) → decimal_behind n text ≡ Some w → Plain text
decimal_plain n w [] e = tt
decimal_plain n w (c ∷ cs) e = (
  digit_no_space n c w cs e,
  digit_no_feed n c w cs e,
  next_digit (digit_in 10 c) (λ d. decimal_behind (n * 10 + d) cs) w (Plain cs) e (λ d is. decimal_plain (n * 10 + d) w cs is),
)

-- a time that was read
some_time : (time : ℕ) (o : Option ℕ) (P : Type 0) → option_and_then (λ m. up_to_last m) o ≡ Some time → ((m : ℕ) → o ≡ Some m → P) → P
some_time time None P e k = absurd (cc)
some_time time (Some m) P e k = k m refl

time_plain : (time : ℕ) (text : List ℕ) → time_of text ≡ Some time → Plain text
unfolding time_of
time_plain time [] e = tt
time_plain time (c ∷ cs) e =
    let some : (length (c ∷ cs) == 0) ≡ false = ne_eqb (length (c ∷ cs)) 0 (λ z. omega (arith, z)) in
    some_time time (decimal_behind 0 (c ∷ cs)) (Plain (c ∷ cs)) (rw some at e) (λ m is. decimal_plain 0 m (c ∷ cs) is)

name_byte : (c : ℕ) → is_name_byte c ≡ true → (c ≢ 32) × (c ≢ 10)
name_byte c is = ((λ e. (let g : is_name_byte 32 ≡ true = rw e at is in absurd (cc))), (λ e. (let g : is_name_byte 10 ≡ true = rw e at is in absurd (cc))))

both_true : (a b : Bool) → (a && b) ≡ true → (a ≡ true) × (b ≡ true)
both_true true true e = (refl, refl)
both_true true false e = absurd (cc)
both_true false b e = absurd (cc)

name_plain : (text : List ℕ) → list_all is_name_byte text ≡ true → Plain text
name_plain [] e = tt
name_plain (c ∷ cs) e =
    let (first, rest) = both_true (is_name_byte c) (list_all is_name_byte cs) e in
    let (space, feed) = name_byte c first in
    (space, feed, name_plain cs rest)

-- the name of a number
spelled_if : (b : Bool) (f : List ℕ → Option ℕ) (xs : List ℕ) (n : ℕ) → option_and_then f (cond b (Some xs) None) ≡ Some n → b ≡ true
spelled_if true f xs n e = refl
spelled_if false f xs n e = absurd (cc)

named_plain : (names : List (List ℕ)) (text : List ℕ) (n : ℕ) → number_named names text ≡ Some n → Plain text
named_plain names text n e =
    let spelled : is_spelled text ≡ true = spelled_if (is_spelled text) (λ name. number_of names name) (padded text) n e in
    name_plain text (both_true (nat_le 1 (length text) && nat_le (length text) NAME_LIMIT) (list_all is_name_byte text) spelled).1

-- ---- lines

-- a slice from a place on
pub slice_from : (xs : List ℕ) (n : ℕ) → take (length xs - n) (drop n xs) ≡ drop n xs
slice_from xs n = let e : length (drop n xs) ≤ length xs - n = omega (arith, length-drop n xs) in take_all (length xs - n) (drop n xs) e

-- a text by what stands before and behind a byte
split_at : (text : List ℕ) (n b : ℕ) → n < length text → get_or text n 0 ≡ b → text ≡ take n text ++ b ∷ drop (n + 1) text
split_at text n b p is =
    sym (take-append-drop n text) ∙ ap (λ (l : List ℕ). take n text ++ l) (drop_more text n 0 p ∙ ap (λ (c : ℕ). c ∷ drop (n + 1) text) is)

taken : (text : List ℕ) (n : ℕ) → n < length text → length (take n text) ≡ n
taken text n p = omega (arith, length-take n text)

no_fall : (latest time bus word : ℕ) → latest ≤ time → judged latest (Some time) (Some bus) (Some word) ≡ Ok (record { time = time; bus = bus; word = word })
no_fall latest time bus word le = rw (le-ltb time latest le) refl

-- three fields that tell a word
three_fields : (t : TableRows) (latest : ℕ) (first name digits : List ℕ) (time bus word : ℕ) → NoSpace first → NoSpace name → NoSpace digits → latest ≤ time
    → time_of first ≡ Some time → number_named t.names.buses name ≡ Some bus → word_of digits ≡ Some word
    → line_word t latest (first ++ 32 ∷ (name ++ 32 ∷ digits)) ≡ Ok (record { time = time; bus = bus; word = word })
unfolding line_word
three_fields t latest first name digits time bus word p q r le is named reads =
    let fields : fields_of (first ++ 32 ∷ (name ++ 32 ∷ digits)) ≡ first ∷ name ∷ digits ∷ [] =
    field_before first (name ++ 32 ∷ digits) p ∙ ap (λ fs. first ∷ fs) (field_before name digits q ∙ ap (λ fs. name ∷ fs) (one_field digits r)) in
    ap (fields_word t latest) fields
    ∙ ap (λ o. judged latest o (number_named t.names.buses name) (word_of digits)) is
    ∙ ap (λ o. judged latest (Some time) o (word_of digits)) named
    ∙ ap (λ o. judged latest (Some time) (Some bus) o) reads
    ∙ no_fall latest time bus word le

pub starts_word : (t : TableRows) (latest : ℕ) (held text behind : List ℕ) (time digits letters bus word : ℕ) → StartsWithTime held time digits → latest ≤ time → text ≡ drop (digits + 1) held
    → HasSpace text letters → number_named t.names.buses (take letters text) ≡ Some bus → behind ≡ drop (letters + 1) text → StartsWithWord behind word
    → StartsWithLine t latest held (record { time = time; bus = bus; word = word }) (digits + letters + 11)
starts_word t latest held text behind time digits letters bus word (there, few, reads, space) le rest (within, short, parts) named back (long, is, feed) =
    let first = take digits held in
    let name = take letters text in
    let eight = take 8 behind in
    let a : length first ≡ digits = taken held digits there in
    let b : length name ≡ letters = taken text letters within in
    let c : length eight ≡ 8 = omega (arith, length-take 8 behind) in
    let p : Plain first = time_plain time first reads in
    let q : Plain name = named_plain t.names.buses name bus named in
    let r : Plain eight = word_plain word eight c is in
    let third : behind ≡ eight ++ 10 ∷ drop 9 behind = split_at behind 8 10 (omega arith) feed in
    let second : text ≡ name ++ 32 ∷ (eight ++ 10 ∷ drop 9 behind) = split_at text letters 32 within parts ∙ ap (λ (l : List ℕ). name ++ 32 ∷ l) (sym back ∙ third) in
    let whole : held ≡ first ++ 32 ∷ (name ++ 32 ∷ (eight ++ 10 ∷ drop 9 behind)) = split_at held digits 32 there space ∙ ap (λ (l : List ℕ). first ++ 32 ∷ l) (sym rest ∙ second) in
    let count : length (first ++ 32 ∷ (name ++ 32 ∷ eight)) ≡ digits + letters + 10 = omega (arith, a, b, c, length-append first (32 ∷ (name ++ 32 ∷ eight)), length-append name (32 ∷ eight)) in (
      first ++ 32 ∷ (name ++ 32 ∷ eight),
      drop 9 behind,
      whole ∙ ap (λ (l : List ℕ). first ++ 32 ∷ l) (sym (append_assoc name (32 ∷ eight) (10 ∷ drop 9 behind))) ∙ sym (append_assoc first (32 ∷ (name ++ 32 ∷ eight)) (10 ∷ drop 9 behind)),
      NoFeed-append first (32 ∷ (name ++ 32 ∷ eight)) (plain_feed first p) (omega arith, NoFeed-append name (32 ∷ eight) (plain_feed name q) (omega arith, plain_feed eight r)),
      omega (arith, count),
      omega (arith, count),
      three_fields t latest first name eight time bus word (plain_space first p) (plain_space name q) (plain_space eight r) le reads named is,
    )
