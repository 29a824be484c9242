-- The least numbers of a queue: its window, its backlog and its delay.
use Rattle.std.specs.Prelude.{ℕ, ◌≤◌, Option, MatchOption}
use Rattle.dc_busy.specs.BusyWindow.{Closes}
use Rattle.dc_busy.specs.declared.limits.TheConstants.{LONGEST_WINDOW}

-- n passes, and is at most each number that passes
abbrev pub IsLeast : (ℕ → Type 0) → ℕ → Type 0
IsLeast P n = P n × ((m : ℕ) → P m → n ≤ m)

-- the least number up to the longest window that passes, None where none passes
abbrev pub IsLeastUpToLongest : (ℕ → Type 0) → Option ℕ → Type 0
IsLeastUpToLongest P found = MatchOption found ((n : ℕ) → n ≤ LONGEST_WINDOW → ¬ P n) (λ n. (n ≤ LONGEST_WINDOW) × IsLeast P n)

-- a window of at least one tick that closes
abbrev pub ClosesWithin : (a s : ℕ → ℕ) → ℕ → Type 0
ClosesWithin a s window = (1 ≤ window) × Closes a s window
