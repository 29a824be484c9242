-- The law about times. It is the contract of a function in `laws`.
use Rattle.std.specs.Prelude.{ℕ, ◌≤◌, ◌↔◌, List}
use Rattle.std.specs.List.{All}
use Rattle.dc_bound.specs.Turns.{NeverFall}
use Rattle.dc_bound.specs.Window.{HoldAtMost}
use Rattle.dc_gauge.specs.Times.{intervals_of}

-- times that never fall keep a spacing exactly where each interval between neighbours is at least as long
abbrev pub SpacingsAreIntervals : Type 0
SpacingsAreIntervals = (spacing : ℕ) (ts : List ℕ) → 1 ≤ spacing → NeverFall ts → HoldAtMost 1 spacing ts ↔ All (λ interval. spacing ≤ interval) (intervals_of ts)
