-- What may wait and what delay is needed, and where in a window it is greatest.
use Rattle.std.specs.Prelude.{◌≡◌, ℕ, zero, suc, ◌+◌, ◌-◌, ◌≤◌, ◌<◌, Bool, if◌then◌else◌, nat_lt, nat_le}
use Rattle.dc_busy.specs.declared.limits.TheConstants.{LONGEST_WINDOW}
use Rattle.dc_margin.specs.declared.peaks.Peak.{Peak}

-- h is the height of f at w, the first number from 1 to the window at which f is greatest
pub record IsPeak (f : ℕ → ℕ) (window w h : ℕ) : Type 0 where
  pub some : 1 ≤ w
  pub within : w ≤ window
  pub height : h ≡ f w
  pub greatest : (v : ℕ) → 1 ≤ v → v ≤ window → f v ≤ h
  pub first : (v : ℕ) → 1 ≤ v → v < w → f v < h

-- the first number from 1 to the window at which f is greatest
unfoldable pub peak : (ℕ → ℕ) → ℕ → ℕ
peak f zero = 1
peak f (suc n) = if nat_lt (f (peak f n)) (f (suc n)) then suc n else peak f n

-- the peak so far; or this height at w, where it is above that
abbrev pub higher : Peak → (w h : ℕ) → Peak
higher peak w h = if nat_lt peak.height h then record { ticks = w; height = h } else peak

-- how many more may come in w ticks than are taken in the whole ticks inside them, two less
abbrev pub waiting : (cap floor : ℕ → ℕ) → ℕ → ℕ
waiting cap floor w = cap w - floor (w - 2)

-- the least number below n that passes, n where none does
unfoldable pub least_below : ℕ → (ℕ → Bool) → ℕ
least_below zero test = 0
least_below (suc n) test = if test 0 then 0 else suc (least_below n (λ d. test (suc d)))

-- the least delay up to the longest window in which all that may come in w ticks is taken, one more where there is none
abbrev pub needed : (cap floor : ℕ → ℕ) → ℕ → ℕ
needed cap floor w = least_below (LONGEST_WINDOW + 1) (λ d. nat_le (cap w) (floor (w - 1 + d)))
