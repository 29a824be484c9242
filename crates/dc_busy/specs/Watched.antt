-- What a watcher knows of a cap on its way, and when it wants to see no more.
use Rattle.std.specs.Prelude.{ℕ, ◌<◌, ◌≤◌, Option, MatchOption}
use Rattle.dc_busy.specs.BusyWindow.{DelayAt}

-- P holds at each number of ticks from `first` on and below `ticks`
abbrev pub EachBelow : (ℕ → Type 0) → (first ticks : ℕ) → Type 0
EachBelow P first ticks = (v : ℕ) → first ≤ v → v < ticks → P v

-- w is the first number of ticks, from `first` on, at which P fails
abbrev pub IsFirstFailing : (ℕ → Type 0) → (first w : ℕ) → Type 0
IsFirstFailing P first w = (first ≤ w) × (¬ P w) × EachBelow P first w

-- what is known once each number of ticks from `first` on and below `ticks` has been seen: P holds there, or fails first
-- at the one that was found
abbrev pub IsFirstSoFar : (ℕ → Type 0) → (first ticks : ℕ) → Option ℕ → Type 0
IsFirstSoFar P first ticks found = MatchOption found (EachBelow P first ticks) (λ w. IsFirstFailing P first w)

-- the first number of ticks at which P fails was found
abbrev pub IsFound : (ℕ → Type 0) → (first : ℕ) → Option ℕ → Type 0
IsFound P first found = MatchOption found ⊥ (λ w. IsFirstFailing P first w)

-- the delay is enough for each number of ticks below `ticks` and up to the window
abbrev pub DelayedBelow : (a s : ℕ → ℕ) (window delay ticks : ℕ) → Type 0
DelayedBelow a s window delay ticks = EachBelow (λ v. v ≤ window → DelayAt a s delay v) 1 ticks
