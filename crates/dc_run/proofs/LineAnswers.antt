-- The answer to a text by its first line.
use Rattle.std.proofs.Common.{◌≡◌, ◌≢◌, ℕ, ◌+◌, ◌-◌, ◌<◌, ◌≤◌, ◌||◌, List, [], ◌∷◌, ◌++◌, length, length-append, refl, sym, ◌∙◌, ap, append_assoc, arith, Bool, true, false, nat_lt, codes, ◌⊎◌, inl, inr}
use Rattle.std.proofs.lemmas.Bool.Decides.{eqb_tells, nat_tests}
use Rattle.dc_word.specs.declared.format.Format.{Format}
use Rattle.dc_device.specs.Lines.{NoFeed, lines_of, onto_first}
use Rattle.dc_device.specs.lemmas.LineLemmas.{NoFeed-push, lines_of_front, lines_of_rest, lines_of_whole}
use Rattle.dc_event.specs.TraceFaults.{line_rule_code}
use Rattle.dc_event.specs.declared.trace.LineRule.TheVariants.{LineTooLong}
use Rattle.dc_answer.specs.Answer.{fault}
use Rattle.dc_run.specs.Decode.{answer_end, answer_lines, answer_text, answer_word, too_long}
use Rattle.dc_event.specs.WordText.{word_of}

within : (n m : ℕ) → n ≤ m → nat_lt m n ≡ false
within n m h = grind (arith, nat_tests)

beyond : (n m : ℕ) → m < n → nat_lt m n ≡ true
beyond n m h = grind (arith, nat_tests)

or_true : (b : Bool) → (b || true) ≡ true
or_true true = refl
or_true false = refl

not_long : (room line text : ℕ) → line ≤ 64 → text ≤ room → too_long room line text ≡ false
not_long room line text p q = rw (within line 64 p, within text room q) refl

is_long : (room line text : ℕ) → (room < text) ⊎ (64 < line) → too_long room line text ≡ true
is_long room line text (inl p) = rw (beyond text room p) (or_true (nat_lt 64 line))
is_long room line text (inr p) = rw (beyond line 64 p) refl

-- a whole line within the limits
pub answer_whole : (format : Format) (room number : ℕ) (line rest : List ℕ) → NoFeed line → length line ≤ 64 → length line + 1 ≤ room
    → answer_text format room number (line ++ 10 ∷ rest)
    ≡ answer_word format number (word_of line) (answer_text format (room - (length line + 1)) (number + 1) rest)
answer_whole format room number line rest plain short fits =
    rw (lines_of_whole line rest plain, not_long room (length line) (length line + 1) short fits) refl

-- the text ends inside a line within the limits
pub answer_cut : (format : Format) (room number : ℕ) (line : List ℕ) → NoFeed line → length line ≤ 64 → length line ≤ room
    → answer_text format room number line ≡ answer_end number line
answer_cut format room number line plain short fits =
    rw (lines_of_rest line plain, not_long room (length line) (length line) short fits) refl

-- a byte past a limit
long_lines : (format : Format) (room number : ℕ) (front : List ℕ) → (room < length front) ⊎ (64 < length front) → (ls : List (List ℕ)) (rest : List ℕ)
    → (let lines = onto_first front ls rest in answer_lines format room number lines.0 lines.1) ≡ fault (line_rule_code LineTooLong) number
long_lines format room number front (inl h) [] rest =
    let p : room < length (front ++ rest) = omega (arith, length-append front rest) in
    rw (is_long room (length (front ++ rest)) (length (front ++ rest)) (inl p)) refl
long_lines format room number front (inr h) [] rest =
    let p : 64 < length (front ++ rest) = omega (arith, length-append front rest) in
    rw (is_long room (length (front ++ rest)) (length (front ++ rest)) (inr p)) refl
long_lines format room number front (inl h) (l ∷ ls) rest =
    let p : room < length (front ++ l) + 1 = omega (arith, length-append front l) in
    rw (is_long room (length (front ++ l)) (length (front ++ l) + 1) (inl p)) refl
long_lines format room number front (inr h) (l ∷ ls) rest =
    let p : 64 < length (front ++ l) = omega (arith, length-append front l) in
    rw (is_long room (length (front ++ l)) (length (front ++ l) + 1) (inr p)) refl

past : (format : Format) (room number : ℕ) (front rest : List ℕ) → NoFeed front → (room < length front) ⊎ (64 < length front)
    → answer_text format room number (front ++ rest) ≡ fault (line_rule_code LineTooLong) number
past format room number front rest plain h =
    rw (lines_of_front front rest plain) (long_lines format room number front h (lines_of rest).0 (lines_of rest).1)

no_room : (format : Format) (room number : ℕ) (line rest : List ℕ) → NoFeed line → length line ≡ room
    → answer_text format room number (line ++ 10 ∷ rest) ≡ fault (line_rule_code LineTooLong) number
no_room format room number line rest plain h =
    let p : room < length line + 1 = omega arith in
    rw (lines_of_whole line rest plain, is_long room (length line) (length line + 1) (inl p)) refl

pub answer_long : (format : Format) (room number : ℕ) (line : List ℕ) (b : ℕ) (rest : List ℕ) → NoFeed line
    → (length line ≡ room) ⊎ ((b ≢ 10) × (length line ≡ 64)) → answer_text format room number (line ++ b ∷ rest) ≡ fault (line_rule_code LineTooLong) number
answer_long format room number line b rest plain (inr (other, h)) =
    let p : 64 < length (line ++ b ∷ []) = omega (arith, length-append line (b ∷ [])) in
    ap (answer_text format room number) (sym (append_assoc line (b ∷ []) rest))
    ∙ past format room number (line ++ b ∷ []) rest (NoFeed-push line b plain other) (inr p)
answer_long format room number line b rest plain (inl h) = elim (eqb_tells b 10) [
  | inl (test, is) ↦ rw is (no_room format room number line rest plain h)
  | inr (test, other) ↦
      let p : room < length (line ++ b ∷ []) = omega (arith, length-append line (b ∷ [])) in
      ap (answer_text format room number) (sym (append_assoc line (b ∷ []) rest))
      ∙ past format room number (line ++ b ∷ []) rest (NoFeed-push line b plain other) (inl p)
]
