-- Clocks, and the same entries by ticks and by times in microseconds.
use Rattle.std.specs.Prelude.{◌≡◌, ℕ, suc, ◌+◌, ◌*◌, ◌<◌, ◌≤◌, List}
use Rattle.std.specs.List.{AllZip}

-- when each tick begins, in microseconds, and how long a tick is at least and at most
pub record Clock : Type 0 where
  pub begins : ℕ → ℕ
  pub shortest : ℕ
  pub longest : ℕ

-- so long is each tick
pub record KeepsPace (clock : Clock) : Type 0 where
  pub some : 1 ≤ clock.shortest
  pub no_less : (k : ℕ) → clock.begins k + clock.shortest ≤ clock.begins (suc k)
  pub no_more : (k : ℕ) → clock.begins (suc k) ≤ clock.begins k + clock.longest

-- a clock whose ticks are of one length, from `start` on
abbrev pub exact_clock : (start tick : ℕ) → Clock
exact_clock start tick = record { begins = λ k. start + k * tick; shortest = tick; longest = tick }

-- the time is within tick k: from its begin on, and before the next one's
pub record IsWithinTick (clock : Clock) (k time : ℕ) : Type 0 where
  pub from : clock.begins k ≤ time
  pub to : time < clock.begins (suc k)

-- the two are one entry: by its tick, and by its time
abbrev pub IsTimeOf : {X : Type 0} → Clock → ℕ × X → ℕ × X → Type 0
IsTimeOf clock x y = (x.1 ≡ y.1) × IsWithinTick clock x.0 y.0

-- these entries by ticks are those by times
abbrev pub AreTimesOf : {X : Type 0} → Clock → List (ℕ × X) → List (ℕ × X) → Type 0
AreTimesOf clock xs ys = AllZip (IsTimeOf clock) xs ys
