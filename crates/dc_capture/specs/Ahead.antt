-- A line that stands whole among bytes.
use Rattle.std.specs.Prelude.{◌≡◌, ℕ, ◌+◌, ◌<◌, ◌≤◌, List, ◌∷◌, ◌++◌, length, take, slice_index, Some, Ok}
use Rattle.dc_device.specs.Lines.{Held, HoldsLine, NoFeed}
use Rattle.dc_device.specs.declared.reader.TheConstants.{LINE_LIMIT}
use Rattle.dc_document.specs.declared.limits.TheConstants.{NAME_LIMIT}
use Rattle.dc_tables.specs.TableRows.{TableRows}
use Rattle.dc_event.specs.WordText.{word_of}
use Rattle.dc_capture.specs.CaptureText.{line_word}
use Rattle.dc_capture.specs.TimeText.{time_of}
use Rattle.dc_capture.specs.declared.line.CapturedWord.{CapturedWord}

-- a text begins with a time of so many digits, at most sixteen, and a space follows them
abbrev pub StartsWithTime : List ℕ → (time digits : ℕ) → Type 0
StartsWithTime text time digits = (digits < length text) × (digits ≤ 16) × (time_of (take digits text) ≡ Some time) × (slice_index text digits ≡ 32)

-- it has a space behind so many bytes, no more than a name has
abbrev pub HasSpace : List ℕ → ℕ → Type 0
HasSpace text letters = (letters < length text) × (letters ≤ NAME_LIMIT) × (slice_index text letters ≡ 32)

-- it begins with eight digits that write a word, and a line feed follows them
abbrev pub StartsWithWord : List ℕ → ℕ → Type 0
StartsWithWord text word = (9 ≤ length text) × (word_of (take 8 text) ≡ Some word) × (slice_index text 8 ≡ 10)

-- bytes begin with a line within its limit that says this word, where the last time was this, and with its line feed it takes so many of them
abbrev pub StartsWithLine : TableRows → (latest : ℕ) → List ℕ → CapturedWord → ℕ → Type 0
StartsWithLine t latest bytes x count =
    (line : List ℕ) × (rest : List ℕ) × (bytes ≡ line ++ 10 ∷ rest) × NoFeed line × (length line ≤ LINE_LIMIT)
    × (length line + 1 ≡ count) × (line_word t latest line ≡ Ok x)

-- the held bytes begin with such a line, within the limit of the text
abbrev pub HoldsWord : TableRows → (latest : ℕ) → Held → CapturedWord → ℕ → Type 0
HoldsWord t latest held x count = (line : List ℕ) × HoldsLine held line × (length line + 1 ≡ count) × (line_word t latest line ≡ Ok x)
