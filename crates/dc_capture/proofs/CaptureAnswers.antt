-- The capture of a text by its first line.
use Rattle.std.proofs.Common.{◌≡◌, ◌≢◌, ℕ, ◌+◌, ◌-◌, ◌<◌, ◌≤◌, ◌||◌, List, [], ◌∷◌, ◌++◌, length, length-append, add-zero, refl, sym, ◌∙◌, ap, append_assoc, arith, Bool, true, false, nat_lt, ◌⊎◌, inl, inr, Some, None}
use Rattle.std.proofs.lemmas.Bool.Decides.{eqb_tells, nat_tests}
use Rattle.dc_device.specs.Lines.{Held, NoFeed, lines_of, onto_first}
use Rattle.dc_device.specs.lemmas.LineLemmas.{NoFeed-push, lines_of_front, lines_of_rest, lines_of_whole}
use Rattle.dc_tables.specs.TableRows.{TableRows}
use Rattle.dc_event.specs.TraceText.{too_long}
use Rattle.dc_capture.specs.CaptureText.{ended_by, faulty, in_front, latest_after, line_word, capture_lines, capture_of}
use Rattle.dc_capture.specs.Reading.{Reading, ahead, capture_from}
use Rattle.dc_capture.specs.declared.fault.CaptureRule.TheVariants.{LineTooLong}

within : (n m : ℕ) → n ≤ m → nat_lt m n ≡ false
within n m h = grind (arith, nat_tests)

beyond : (n m : ℕ) → m < n → nat_lt m n ≡ true
beyond n m h = grind (arith, nat_tests)

or_true : (b : Bool) → (b || true) ≡ true
or_true true = refl
or_true false = refl

not_long : (room line text : ℕ) → line ≤ 64 → text ≤ room → too_long room line text ≡ false
not_long room line text p q = rw (within line 64 p, within text room q) refl

is_long : (room line text : ℕ) → (room < text) ⊎ (64 < line) → too_long room line text ≡ true
is_long room line text (inl p) = rw (beyond text room p) (or_true (nat_lt 64 line))
is_long room line text (inr p) = rw (beyond line 64 p) refl

-- a whole line within the limits
pub capture_whole : (t : TableRows) (room number latest : ℕ) (line rest : List ℕ) → NoFeed line → length line ≤ 64 → length line + 1 ≤ room
    → capture_from t room number latest (line ++ 10 ∷ rest)
    ≡ in_front number (line_word t latest line) (capture_from t (room - (length line + 1)) (number + 1) (latest_after latest (line_word t latest line)) rest)
capture_whole t room number latest line rest plain short fits =
    rw (lines_of_whole line rest plain, not_long room (length line) (length line + 1) short fits) refl

-- the text ends inside a line within the limits, or after the last one
pub capture_cut : (t : TableRows) (room number latest : ℕ) (line : List ℕ) → NoFeed line → length line ≤ 64 → length line ≤ room
    → capture_from t room number latest line ≡ ended_by number line
capture_cut t room number latest line plain short fits =
    rw (lines_of_rest line plain, not_long room (length line) (length line) short fits) refl

-- a byte past a limit
long_lines : (t : TableRows) (room number latest : ℕ) (front : List ℕ) → (room < length front) ⊎ (64 < length front) → (ls : List (List ℕ)) (rest : List ℕ)
    → (let lines = onto_first front ls rest in capture_lines t room number latest lines.0 lines.1) ≡ faulty LineTooLong number
long_lines t room number latest front (inl h) [] rest =
    let p : room < length (front ++ rest) = omega (arith, length-append front rest) in
    rw (is_long room (length (front ++ rest)) (length (front ++ rest)) (inl p)) refl
long_lines t room number latest front (inr h) [] rest =
    let p : 64 < length (front ++ rest) = omega (arith, length-append front rest) in
    rw (is_long room (length (front ++ rest)) (length (front ++ rest)) (inr p)) refl
long_lines t room number latest front (inl h) (l ∷ ls) rest =
    let p : room < length (front ++ l) + 1 = omega (arith, length-append front l) in
    rw (is_long room (length (front ++ l)) (length (front ++ l) + 1) (inl p)) refl
long_lines t room number latest front (inr h) (l ∷ ls) rest =
    let p : 64 < length (front ++ l) = omega (arith, length-append front l) in
    rw (is_long room (length (front ++ l)) (length (front ++ l) + 1) (inr p)) refl

past : (t : TableRows) (room number latest : ℕ) (front rest : List ℕ) → NoFeed front → (room < length front) ⊎ (64 < length front)
    → capture_from t room number latest (front ++ rest) ≡ faulty LineTooLong number
past t room number latest front rest plain h =
    rw (lines_of_front front rest plain) (long_lines t room number latest front h (lines_of rest).0 (lines_of rest).1)

no_room : (t : TableRows) (room number latest : ℕ) (line rest : List ℕ) → NoFeed line → length line ≡ room
    → capture_from t room number latest (line ++ 10 ∷ rest) ≡ faulty LineTooLong number
no_room t room number latest line rest plain h =
    let p : room < length line + 1 = omega arith in
    rw (lines_of_whole line rest plain, is_long room (length line) (length line + 1) (inl p)) refl

pub capture_long : (t : TableRows) (room number latest : ℕ) (line : List ℕ) (b : ℕ) (rest : List ℕ) → NoFeed line
    → (length line ≡ room) ⊎ ((b ≢ 10) × (length line ≡ 64)) → capture_from t room number latest (line ++ b ∷ rest) ≡ faulty LineTooLong number
capture_long t room number latest line b rest plain (inr (other, h)) =
    let p : 64 < length (line ++ b ∷ []) = omega (arith, length-append line (b ∷ [])) in
    ap (capture_from t room number latest) (sym (append_assoc line (b ∷ []) rest))
    ∙ past t room number latest (line ++ b ∷ []) rest (NoFeed-push line b plain other) (inr p)
capture_long t room number latest line b rest plain (inl h) = elim (eqb_tells b 10) [
  | inl (test, is) ↦ rw is (no_room t room number latest line rest plain h)
  | inr (test, other) ↦
      let p : room < length (line ++ b ∷ []) = omega (arith, length-append line (b ∷ [])) in
      ap (capture_from t room number latest) (sym (append_assoc line (b ∷ []) rest))
      ∙ past t room number latest (line ++ b ∷ []) rest (NoFeed-push line b plain other) (inl p)
]

-- a reader that begins has the capture of the whole text ahead
pub ahead_at_start : (known t : TableRows) (limit from : ℕ) (line : List ℕ) (held : Held) → known ≡ t → line ≡ [] → held.bytes ≡ [] → held.room ≡ limit → (text : List ℕ)
    → (let r : Reading = record { tables = known; line = line; held = held.bytes; room = held.room; number = 1; latest = from; stopped = None } in ahead r (Some text)) ≡ Some (capture_from t limit 1 from text)
ahead_at_start known t limit from line held same no_line none whole text = rw (same, no_line, none, whole, add-zero) refl

-- where each time may be first
pub from_any : (t : TableRows) (limit : ℕ) (text : List ℕ) → capture_from t limit 1 0 text ≡ capture_of t limit text
unfolding capture_of
from_any t limit text = refl
