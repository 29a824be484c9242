-- A text by its lines, and how a reader comes by them.
use Rattle.std.specs.Prelude.{◌≡◌, ◌≢◌, ℕ, ◌+◌, ◌==◌, ◌<◌, ◌≤◌, if◌then◌else◌, List, [], ◌∷◌, ◌++◌, length, Option, Some, None, Result, Ok, Err, Bool, true, false, ◌⊎◌}
use Rattle.std.specs.Io.KnownBytes.{Consumes, IsAtEnd, Keeps}
use Rattle.dc_device.specs.declared.reader.LineEnd.{LineEnd}
use Rattle.dc_device.specs.declared.reader.LineEnd.TheVariants.{Whole, Long}
use Rattle.dc_device.specs.declared.reader.TheConstants.{LINE_LIMIT}

-- the whole lines of a text, without their line feeds, and what stands after the last line feed
abbrev pub Lines : Type 0
Lines = List (List ℕ) × List ℕ

-- the lines, with these bytes at the front of the first
abbrev pub onto_first : List ℕ → List (List ℕ) → List ℕ → Lines
onto_first front [] rest = ([], front ++ rest)
onto_first front (l ∷ ls) rest = ((front ++ l) ∷ ls, rest)

-- the same, of lines and what stands after them as a pair
abbrev pub onto : List ℕ → Lines → Lines
onto front lines = onto_first front lines.0 lines.1

-- the lines of a text without their line feeds, and the bytes after the last line feed
abbrev pub lines_of : List ℕ → Lines
lines_of [] = ([], [])
lines_of (b ∷ bs) = if b == 10 then ([] ∷ (lines_of bs).0, (lines_of bs).1) else onto (b ∷ []) (lines_of bs)

-- lines as text: each has a line feed at its end
abbrev pub spelled : List (List ℕ) → List ℕ
spelled [] = []
spelled (l ∷ ls) = l ++ 10 ∷ spelled ls

-- no byte is a line feed
abbrev pub NoFeed : List ℕ → Type 0
NoFeed [] = Unit {0}
NoFeed (b ∷ bs) = (b ≢ 10) × NoFeed bs

-- what a reader holds: the bytes that were pulled and not read, and how many more bytes of the text it may read
pub record Held : Type 0 where
  pub bytes : List ℕ
  pub room : ℕ

-- the held bytes begin with this line and its line feed, within the limits of a line and of the text
abbrev pub HoldsLine : Held → List ℕ → Type 0
HoldsLine held line =
    (rest : List ℕ) × (held.bytes ≡ line ++ 10 ∷ rest) × NoFeed line × (length line ≤ LINE_LIMIT) × (length line < held.room)

-- they begin with no such line
abbrev pub HasNoLine : Held → Type 0
HasNoLine held = (line : List ℕ) → HoldsLine held line → ⊥

-- How far the held bytes bring a line: all of them belong to it and it goes on (None); its line feed stands among
-- them (Whole); or one of them is past the limit of the text or of a line (Long).
abbrev pub ReadsOn : Held → Held → List ℕ → List ℕ → Option LineEnd → Type 0
ReadsOn old new line line' None =
    (line' ≡ line ++ old.bytes) × NoFeed old.bytes × (new.bytes ≡ []) × (length old.bytes + new.room ≡ old.room)
ReadsOn old new line line' (Some Whole) =
    (front : List ℕ) × (old.bytes ≡ front ++ 10 ∷ new.bytes) × (line' ≡ line ++ front) × NoFeed front
    × (length front + 1 + new.room ≡ old.room)
ReadsOn old new line line' (Some Long) =
    (front : List ℕ) × (b : ℕ) × (back : List ℕ) × (old.bytes ≡ front ++ b ∷ back) × (line' ≡ line ++ front) × NoFeed front
    × ((length front ≡ old.room) ⊎ ((b ≢ 10) × (length line' ≡ LINE_LIMIT)))

-- These bytes were pulled: one or more, or none at the end.
abbrev pub Fills : {E : Type 0} → Option (List ℕ) → Option (List ℕ) → List ℕ → Result Bool E → Type 0
Fills old new bytes (Ok true) = Consumes old new bytes × (bytes ≢ [])
Fills old new bytes (Ok false) = Keeps old new × IsAtEnd new × (bytes ≡ [])
Fills old new bytes (Err e) = Keeps old new × (bytes ≡ [])
