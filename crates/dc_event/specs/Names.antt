-- Names found by their letters: a guess whose whole key is compared.
use Rattle.std.specs.Prelude.{◌≡◌, ℕ, ◌+◌, ◌*◌, ◌<◌, ◌≤◌, List, [], ◌∷◌, length, take, reverse, Some}
use Rattle.std.specs.List.{All}
use Rattle.dc_event.specs.TraceText.{number_named}
use Rattle.dc_event.specs.declared.names.Place.{Place}

-- bytes past the space
abbrev pub AreLetters : List ℕ → Type 0
AreLetters [] = Unit {0}
AreLetters (c ∷ cs) = (32 < c) × (c < 256) × AreLetters cs

-- the number that bytes write in base 256, the lowest first
abbrev pub number_in_bytes : List ℕ → ℕ
number_in_bytes [] = 0
number_in_bytes (c ∷ cs) = c + 256 * number_in_bytes cs

-- the key of a name: the number that its letters write in base 256, the lowest last
unfoldable pub key_of : List ℕ → ℕ
key_of name = number_in_bytes (reverse name)

-- any name of letters that has this key has this number among the names
abbrev pub IsFound : List (List ℕ) → ℕ → ℕ → Type 0
IsFound names key number = (name : List ℕ) → AreLetters name → key_of name ≡ key → number_named names name ≡ Some number

-- each place tells the number of the name that has its key
abbrev pub AreFound : List (List ℕ) → List Place → Type 0
AreFound names places = All (λ p. IsFound names p.key p.number) places

-- a text begins with so many letters, which are the name of this number, and a byte follows them
abbrev pub StartsWithName : List (List ℕ) → List ℕ → ℕ → ℕ → Type 0
StartsWithName names text number letters =
    (letters < length text) × (letters ≤ 8) × AreLetters (take letters text) × (number_named names (take letters text) ≡ Some number)
