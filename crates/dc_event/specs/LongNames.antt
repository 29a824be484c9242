-- Names of more than eight letters: a guess whose whole key is compared.
use Rattle.std.specs.Prelude.{◌≡◌, ℕ, ◌-◌, ◌<◌, ◌≤◌, List, length, take, drop, get_or, Some}
use Rattle.std.specs.Int.{w64, from_le_bytes}
use Rattle.dc_event.specs.Names.{AreFound, AreLetters}
use Rattle.dc_event.specs.TraceText.{number_named}
use Rattle.dc_event.specs.declared.long_names.LongKey.{LongKey}
use Rattle.dc_event.specs.declared.names.NamesOfKind.{NamesOfKind}

-- the number that eight bytes of a text from a place on write in base 256, the lowest first
unfoldable pub eight_bytes_from : List ℕ → ℕ → ℕ
eight_bytes_from text at = from_le_bytes w64 (take 8 (drop at text))

-- the key of a long name: how many letters it has, its first eight and its last eight
unfoldable pub long_key_of : List ℕ → LongKey
long_key_of name = record { letters = length name; first = eight_bytes_from name 0; last = eight_bytes_from name (length name - 8) }

-- long bytes that have this key are letters, and the name of this number
unfoldable pub IsLongFound : List (List ℕ) → LongKey → ℕ → Type 0
IsLongFound names key number =
    (name : List ℕ) → 8 < length name → ((i : ℕ) → get_or name i 0 < 256) → long_key_of name ≡ key → AreLetters name × (number_named names name ≡ Some number)

-- each number with a key is that of the long name that has it
abbrev pub AreLongFound : List (List ℕ) → List LongKey → Type 0
AreLongFound names keys = (number : ℕ) (key : LongKey) → number < length keys → IsLongFound names (get_or keys number key) number

-- the short and the long ones of a kind do
abbrev pub AreNamesFound : List (List ℕ) → NamesOfKind → Type 0
AreNamesFound names kind = AreFound names kind.short.places × AreLongFound names kind.long.keys

-- a text begins with so many letters, few or many, which are the name of this number, and a byte follows them
abbrev pub StartsWithAnyName : List (List ℕ) → List ℕ → ℕ → ℕ → Type 0
StartsWithAnyName names text number letters =
    (letters < length text) × (letters ≤ 16) × AreLetters (take letters text) × (number_named names (take letters text) ≡ Some number)
