-- Names whose buses are kept as guesses.
use Rattle.std.specs.Prelude.{◌≡◌, ℕ, ◌<◌, ◌≤◌, List, length, take, IfSome}
use Rattle.std.specs.List.{All}
use Rattle.dc_document.specs.declared.limits.TheConstants.{NAME_LIMIT}
use Rattle.dc_event.specs.TraceText.{number_named}
use Rattle.dc_capture.specs.declared.buses.Guess.{Guess}

-- the name of a guess names its bus among these, or none
abbrev pub Tells : List (List ℕ) → Guess → Type 0
Tells names g = (g.letters ≤ NAME_LIMIT) × (number_named names (take g.letters g.bytes) ≡ g.bus) × IfSome g.bus (λ bus. bus < length names)

-- so each of them
abbrev pub AreTold : List (List ℕ) → List Guess → Type 0
AreTold names guesses = All (Tells names) guesses
