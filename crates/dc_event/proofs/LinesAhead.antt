-- Lines that stand whole among bytes.
use Rattle.std.proofs.Common.{◌≡◌, ◌≢◌, ℕ, ◌+◌, ◌-◌, ◌*◌, ◌<◌, ◌≤◌, ◌==◌, List, [], ◌∷◌, ◌++◌, length, length-append, length-take, length-drop, take, take_all, drop, get_or, take-append-drop, append_assoc, refl, sym, ap, ◌∙◌, arith, Option, Some, None, Ok, option_and_then, false}
use Rattle.std.proofs.lemmas.Bool.Decides.{nat_tests}
use Rattle.std.proofs.lemmas.List.{drop_more}
use Rattle.dc_word.specs.Digits.{digit_in}
use Rattle.dc_device.specs.Lines.{Held, NoFeed}
use Rattle.dc_device.specs.lemmas.LineLemmas.{NoFeed-append}
use Rattle.dc_tables.specs.TableRows.{TableRows}
use Rattle.dc_event.specs.Ahead.{HoldsEvent, StartsWithLine}
use Rattle.dc_event.specs.LongNames.{StartsWithAnyName}
use Rattle.dc_event.specs.Names.{AreLetters}
use Rattle.dc_event.specs.TraceText.{fields_of, line_event, number_named}
use Rattle.dc_event.specs.WordText.{number_behind, word_of}
use Rattle.dc_event.specs.declared.event.Event.{Event}
use Rattle.dc_event.specs.declared.event.Event.TheVariants.{Tick, Arrive, Route, Send}

-- ---- fields

-- no byte is a space
abbrev NoSpace : List ℕ → Type 0
NoSpace [] = Unit {0}
NoSpace (b ∷ bs) = (b ≢ 32) × NoSpace bs

letters_no_space : (xs : List ℕ) → AreLetters xs → NoSpace xs
letters_no_space [] p = tt
letters_no_space (x ∷ xs) (above, byte, more) = (omega arith, letters_no_space xs more)

letters_no_feed : (xs : List ℕ) → AreLetters xs → NoFeed xs
letters_no_feed [] p = tt
letters_no_feed (x ∷ xs) (above, byte, more) = (omega arith, letters_no_feed xs more)

not_space : (c : ℕ) → c ≢ 32 → (c == 32) ≡ false
not_space c other = grind (arith, nat_tests)

one_field : (text : List ℕ) → NoSpace text → fields_of text ≡ text ∷ []
one_field [] p = refl
one_field (c ∷ cs) (other, more) = rw (not_space c other, one_field cs more) refl

field_before : (text rest : List ℕ) → NoSpace text → fields_of (text ++ 32 ∷ rest) ≡ text ∷ fields_of rest
field_before [] rest p = refl
field_before (c ∷ cs) rest (other, more) = rw (not_space c other, field_before cs rest more) refl

-- ---- digits are neither spaces nor line feeds

next_digit : (d : Option ℕ) (f : ℕ → Option ℕ) (w : ℕ) (P : Type 0) → option_and_then f d ≡ Some w → ((e : ℕ) → f e ≡ Some w → P) → P
next_digit None f w P e k = cc
next_digit (Some d) f w P e k = k d e

digit_no_space : (n c w : ℕ) (cs : List ℕ) → number_behind n (c ∷ cs) ≡ Some w → c ≢ 32
digit_no_space n c w cs e f = let g : number_behind n (32 ∷ cs) ≡ Some w = rw f at e in cc

digit_no_feed : (n c w : ℕ) (cs : List ℕ) → number_behind n (c ∷ cs) ≡ Some w → c ≢ 10
digit_no_feed n c w cs e f = let g : number_behind n (10 ∷ cs) ≡ Some w = rw f at e in cc

digits_no_space : (n w : ℕ) (text : List ℕ) → number_behind n text ≡ Some w → NoSpace text
digits_no_space n w [] e = tt
digits_no_space n w (c ∷ cs) e = (
  digit_no_space n c w cs e,
  next_digit (digit_in 16 c) (λ d. number_behind (n * 16 + d) cs) w (NoSpace cs) e (λ d is. digits_no_space (n * 16 + d) w cs is),
)

digits_no_feed : (n w : ℕ) (text : List ℕ) → number_behind n text ≡ Some w → NoFeed text
digits_no_feed n w [] e = tt
digits_no_feed n w (c ∷ cs) e = (
  digit_no_feed n c w cs e,
  next_digit (digit_in 16 c) (λ d. number_behind (n * 16 + d) cs) w (NoFeed cs) e (λ d is. digits_no_feed (n * 16 + d) w cs is),
)

word_no_space : (w : ℕ) (text : List ℕ) → length text ≡ 8 → word_of text ≡ Some w → NoSpace text
unfolding word_of
word_no_space w text e f = digits_no_space 0 w text (rw e at f)

word_no_feed : (w : ℕ) (text : List ℕ) → length text ≡ 8 → word_of text ≡ Some w → NoFeed text
unfolding word_of
word_no_feed w text e f = digits_no_feed 0 w text (rw e at f)

-- ---- events

route_event : (t : TableRows) (name : List ℕ) (router : ℕ) → NoSpace name → number_named t.names.routers name ≡ Some router → line_event t (82 ∷ 32 ∷ name) ≡ Ok (Route router)
unfolding line_event
route_event t name router plain is = rw (one_field name plain, is) refl

send_event : (t : TableRows) (name : List ℕ) (output : ℕ) → NoSpace name → number_named t.names.outputs name ≡ Some output → line_event t (83 ∷ 32 ∷ name) ≡ Ok (Send output)
unfolding line_event
send_event t name output plain is = rw (one_field name plain, is) refl

arrive_event : (t : TableRows) (name text : List ℕ) (bus word : ℕ) → NoSpace name → NoSpace text → number_named t.names.buses name ≡ Some bus → word_of text ≡ Some word
    → line_event t (65 ∷ 32 ∷ (name ++ 32 ∷ text)) ≡ Ok (Arrive word bus)
unfolding line_event
arrive_event t name text bus word plain more is reads = rw (field_before name text plain, one_field text more, is, reads) refl

tick_event : (t : TableRows) → line_event t (84 ∷ []) ≡ Ok Tick
unfolding line_event
tick_event t = refl

-- ---- lines

first_two : (held : List ℕ) → 2 ≤ length held → held ≡ get_or held 0 0 ∷ get_or held 1 0 ∷ drop 2 held
first_two [] p = absurd (omega arith)
first_two (a ∷ []) p = absurd (omega arith)
first_two (a ∷ b ∷ rest) p = refl

-- held bytes by their first two
begins : (held text : List ℕ) (a b : ℕ) → 2 ≤ length held → get_or held 0 0 ≡ a → get_or held 1 0 ≡ b → text ≡ drop 2 held → held ≡ a ∷ b ∷ text
begins held text a b p first second rest =
    first_two held p ∙ ap (λ (n : ℕ). n ∷ get_or held 1 0 ∷ drop 2 held) first ∙ ap (λ (n : ℕ). a ∷ n ∷ drop 2 held) second
    ∙ ap (λ (l : List ℕ). a ∷ b ∷ l) (sym rest)

-- a slice from a place on
pub slice_from : (xs : List ℕ) (n : ℕ) → take (length xs - n) (drop n xs) ≡ drop n xs
slice_from xs n = let e : length (drop n xs) ≤ length xs - n = omega (arith, length-drop n xs) in take_all (length xs - n) (drop n xs) e

-- a text by what stands before and behind a byte
split_at : (text : List ℕ) (n b : ℕ) → n < length text → get_or text n 0 ≡ b → text ≡ take n text ++ b ∷ drop (n + 1) text
split_at text n b p is =
    sym (take-append-drop n text) ∙ ap (λ (l : List ℕ). take n text ++ l) (drop_more text n 0 p ∙ ap (λ (c : ℕ). c ∷ drop (n + 1) text) is)

taken : (text : List ℕ) (n : ℕ) → n < length text → length (take n text) ≡ n
taken text n p = omega (arith, length-take n text)

pub starts_tick : (t : TableRows) (held : List ℕ) → 2 ≤ length held → get_or held 0 0 ≡ 84 → get_or held 1 0 ≡ 10 → StartsWithLine t held Tick 2
starts_tick t held p first second =
    (84 ∷ [], drop 2 held, begins held (drop 2 held) 84 10 p first second refl, (omega arith, tt), omega arith, omega arith, tick_event t)

-- a kind and a name alone in a line
named_line : (t : TableRows) (names : List (List ℕ)) (held text : List ℕ) (kind number letters : ℕ) (event : Event) → kind ≢ 10 → 2 ≤ length held
    → get_or held 0 0 ≡ kind → get_or held 1 0 ≡ 32 → text ≡ drop 2 held
    → StartsWithAnyName names text number letters → get_or text letters 0 ≡ 10
    → line_event t (kind ∷ 32 ∷ take letters text) ≡ Ok event
    → StartsWithLine t held event (letters + 3)
named_line t names held text kind number letters event other p first second rest (within, few, plain, named) feed says =
    let n : length (take letters text) ≡ letters = taken text letters within in (
      kind ∷ 32 ∷ take letters text,
      drop (letters + 1) text,
      begins held text kind 32 p first second rest ∙ ap (λ (l : List ℕ). kind ∷ 32 ∷ l) (split_at text letters 10 within feed),
      (other, (omega arith, letters_no_feed (take letters text) plain)),
      omega (arith, n),
      omega (arith, n),
      says,
    )

pub starts_route : (t : TableRows) (held text : List ℕ) (router letters : ℕ) → 2 ≤ length held → get_or held 0 0 ≡ 82 → get_or held 1 0 ≡ 32 → text ≡ drop 2 held
    → StartsWithAnyName t.names.routers text router letters → get_or text letters 0 ≡ 10 → StartsWithLine t held (Route router) (letters + 3)
starts_route t held text router letters p first second rest starts feed =
    named_line t t.names.routers held text 82 router letters (Route router) (omega arith) p first second rest starts feed
    (route_event t (take letters text) router (letters_no_space (take letters text) starts.2) starts.3)

pub starts_send : (t : TableRows) (held text : List ℕ) (output letters : ℕ) → 2 ≤ length held → get_or held 0 0 ≡ 83 → get_or held 1 0 ≡ 32 → text ≡ drop 2 held
    → StartsWithAnyName t.names.outputs text output letters → get_or text letters 0 ≡ 10 → StartsWithLine t held (Send output) (letters + 3)
starts_send t held text output letters p first second rest starts feed =
    named_line t t.names.outputs held text 83 output letters (Send output) (omega arith) p first second rest starts feed
    (send_event t (take letters text) output (letters_no_space (take letters text) starts.2) starts.3)

-- a text that begins with a space, eight digits and a line feed
abbrev pub StartsWithWord : List ℕ → ℕ → Type 0
StartsWithWord text word = (10 ≤ length text) × (get_or text 0 0 ≡ 32) × (word_of (take 8 (drop 1 text)) ≡ Some word) × (get_or text 9 0 ≡ 10)

word_split : (text : List ℕ) (word : ℕ) → StartsWithWord text word → text ≡ 32 ∷ (take 8 (drop 1 text) ++ 10 ∷ drop 10 text)
word_split [] word (long, space, is, feed) = absurd (omega arith)
word_split (c ∷ cs) word (long, space, is, feed) =
    ap (λ (n : ℕ). n ∷ cs) space ∙ ap (λ (l : List ℕ). 32 ∷ l) (split_at cs 8 10 (omega arith) feed)

pub starts_arrival : (t : TableRows) (held text behind : List ℕ) (bus word letters : ℕ) → 2 ≤ length held → get_or held 0 0 ≡ 65 → get_or held 1 0 ≡ 32 → text ≡ drop 2 held
    → StartsWithAnyName t.names.buses text bus letters → behind ≡ drop letters text → StartsWithWord behind word
    → StartsWithLine t held (Arrive word bus) (letters + 12)
starts_arrival t held text behind bus word letters p first second rest (within, few, plain, named) back (long, space, reads, feed) =
    let name = take letters text in
    let digits = take 8 (drop 1 behind) in
    let n : length name ≡ letters = taken text letters within in
    let eight : length digits ≡ 8 = omega (arith, length-take 8 (drop 1 behind), length-drop 1 behind) in
    let whole : text ≡ name ++ 32 ∷ (digits ++ 10 ∷ drop 10 behind) =
    sym (take-append-drop letters text) ∙ ap (λ (l : List ℕ). name ++ l) (sym back ∙ word_split behind word (long, space, reads, feed)) in (
      65 ∷ 32 ∷ (name ++ 32 ∷ digits),
      drop 10 behind,
      begins held text 65 32 p first second rest ∙ ap (λ (l : List ℕ). 65 ∷ 32 ∷ l) (whole ∙ sym (append_assoc name (32 ∷ digits) (10 ∷ drop 10 behind))),
      (omega arith, (omega arith, NoFeed-append name (32 ∷ digits) (letters_no_feed name plain) (omega arith, word_no_feed word digits eight reads))),
      omega (arith, n, eight, length-append name (32 ∷ digits)),
      omega (arith, n, eight, length-append name (32 ∷ digits)),
      arrive_event t name digits bus word (letters_no_space name plain) (word_no_space word digits eight reads) named reads,
    )

-- within the limit of the text
pub holds_event : (t : TableRows) (held : Held) (bytes : List ℕ) (event : Event) (count : ℕ) → bytes ≡ held.bytes → StartsWithLine t bytes event count → count ≤ held.room → HoldsEvent t held event count
holds_event t held bytes event count is (line, rest, whole, plain, short, long, says) room =
    (line, (rest, sym is ∙ whole, plain, short, omega arith), long, says)
