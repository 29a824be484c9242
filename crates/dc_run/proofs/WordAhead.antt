-- A word that is read where it is held.
use Rattle.std.proofs.Common.{◌≡◌, ◌≢◌, ℕ, ◌+◌, ◌-◌, ◌*◌, ◌<◌, ◌≤◌, List, [], ◌∷◌, ◌++◌, length, take, drop, get_or, Option, Some, None, option_and_then, refl, sym, ap, ◌∙◌, arith, true≢false}
use Rattle.std.proofs.lemmas.List.{drop_more, length-take-le, take-append-drop}
use Rattle.dc_word.specs.Digits.{digit_in}
use Rattle.dc_device.specs.Lines.{Held, NoFeed, ReadsOn}
use Rattle.dc_device.specs.declared.reader.LineEnd.TheVariants.{Whole}
use Rattle.dc_event.specs.WordText.{number_behind, word_of}
use Rattle.dc_run.specs.Decode.{IsAhead}

no_feed_digit : (n c w : ℕ) (cs : List ℕ) → number_behind n (c ∷ cs) ≡ Some w → c ≢ 10
no_feed_digit n c w cs e f = let g : number_behind n (10 ∷ cs) ≡ Some w = rw f at e in cc

next_digit : (d : Option ℕ) (f : ℕ → Option ℕ) (w : ℕ) (P : Type 0) → option_and_then f d ≡ Some w → ((e : ℕ) → f e ≡ Some w → P) → P
next_digit None f w P e k = cc
next_digit (Some d) f w P e k = k d e

digits_plain : (n w : ℕ) (text : List ℕ) → number_behind n text ≡ Some w → NoFeed text
digits_plain n w [] e = tt
digits_plain n w (c ∷ cs) e = (
  no_feed_digit n c w cs e,
  next_digit (digit_in 16 c) (λ d. number_behind (n * 16 + d) cs) w (NoFeed cs) e (λ d is. digits_plain (n * 16 + d) w cs is),
)

-- a word's digits are no line feeds
word_plain : (w : ℕ) (text : List ℕ) → length text ≡ 8 → word_of text ≡ Some w → NoFeed text
unfolding word_of
word_plain w text e f = digits_plain 0 w text (rw e at f)

pub passes_word : (old new : Held) (line : List ℕ) (word : ℕ) → IsAhead old line word → new.bytes ≡ drop 9 old.bytes → 9 + new.room ≡ old.room
    → (line' : List ℕ) × ReadsOn old new line line' (Some Whole) × (length line' ≤ 64) × (word_of line' ≡ Some word)
passes_word old new line word (empty, long, room, feed, is) rest left =
    let eight : length (take 8 old.bytes) ≡ 8 = length-take-le 8 old.bytes (omega arith) in
    let behind : drop 8 old.bytes ≡ get_or old.bytes 8 0 ∷ drop 9 old.bytes = drop_more old.bytes 8 0 (omega arith) in
    let whole : old.bytes ≡ take 8 old.bytes ++ 10 ∷ new.bytes =
    sym (take-append-drop 8 old.bytes) ∙ ap (λ (l : List ℕ). take 8 old.bytes ++ l) (rw (feed, ← rest) at behind) in (
      take 8 old.bytes,
      (take 8 old.bytes, whole, ap (λ (l : List ℕ). l ++ take 8 old.bytes) (sym empty), word_plain word (take 8 old.bytes) eight is, omega (arith, eight, left)),
      omega (arith, eight),
      is,
    )
