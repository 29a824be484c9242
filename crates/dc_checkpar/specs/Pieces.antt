-- The pieces of a long window.
use Rattle.std.specs.Prelude.{ℕ, ◌+◌, ◌*◌, min, Option}
use Rattle.dc_busy.specs.BusyWindow.{IsFirstBetween}
use Rattle.dc_checkpar.specs.declared.limits.TheConstants.{PIECE}

-- what was found is the first number of ticks of this piece of the window at which P fails; nothing, where P holds at each
abbrev pub IsFirstInPiece : (ℕ → Type 0) → (piece window : ℕ) → Option ℕ → Type 0
IsFirstInPiece P piece window found = IsFirstBetween P (piece * PIECE + 1) (min (piece * PIECE + PIECE) window) found
