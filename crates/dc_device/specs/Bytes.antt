-- What is written, and how much of it where a device fails.
use Rattle.std.specs.Prelude.{◌≡◌, ℕ, List, [], ◌++◌, Option, Result, Ok, Err}
use Rattle.std.specs.Io.KnownBytes.{Appends}

-- a front of the bytes was written
abbrev pub AppendsFront : Option (List ℕ) → Option (List ℕ) → List ℕ → Type 0
AppendsFront old new bytes = (front : List ℕ) × (back : List ℕ) × (front ++ back ≡ bytes) × Appends old new front

-- all of the bytes were written, or a front of them
abbrev pub Writes : {T E : Type 0} → Option (List ℕ) → Option (List ℕ) → List ℕ → Result T E → Type 0
Writes old new bytes (Ok x) = Appends old new bytes
Writes old new bytes (Err e) = AppendsFront old new bytes

-- The bytes were put after those that waited: a front of all of these was pushed, and the rest waits now.
abbrev pub Gathered : Option (List ℕ) → List ℕ → Option (List ℕ) → List ℕ → List ℕ → Type 0
Gathered old waiting new waiting' bytes = (front : List ℕ) × Appends old new front × (front ++ waiting' ≡ waiting ++ bytes)

-- The bytes were put after those that waited; or, where the sink failed, it has a front of them, and nothing waits.
abbrev pub Gathers : {T E : Type 0} → Option (List ℕ) → List ℕ → Option (List ℕ) → List ℕ → List ℕ → Result T E → Type 0
Gathers old waiting new waiting' bytes (Ok x) = Gathered old waiting new waiting' bytes
Gathers old waiting new waiting' bytes (Err e) = AppendsFront old new (waiting ++ bytes) × (waiting' ≡ [])
