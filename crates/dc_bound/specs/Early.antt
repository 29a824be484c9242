-- The cap of a stream with jitter, and the offered words that are early by it.
use Rattle.std.specs.Prelude.{ℕ, zero, suc, ◌+◌, ◌-◌, ◌/◌, max, Bool, cond, nat_lt, is_some, List, [], ◌∷◌, ◌++◌}
use Rattle.dc_bound.specs.Window.{count_in, HoldAtMost}
use Rattle.dc_bound.specs.Places.{least_where}

-- the most words of a stream in so many ticks, where its words come at least m ticks apart but up to j ticks late:
-- nothing in none, else (d + j) / m, rounded up
abbrev pub jitter_cap : (m j : ℕ) → ℕ → ℕ
jitter_cap m j zero = 0
jitter_cap m j (suc d) = (suc d + j + (m - 1)) / m

-- any d consecutive ticks hold at most cap d of these
abbrev pub HoldsCap : (ℕ → ℕ) → List ℕ → Type 0
HoldsCap cap ts = (d : ℕ) → HoldAtMost (cap d) d ts

-- how many of these are among the d consecutive ticks that end in tick t
abbrev pub up_to : ℕ → ℕ → List ℕ → ℕ
up_to d t ts = count_in (suc t - d) d ts

-- whether some d ticks that end in t would pass the cap, if one more came in tick t
unfoldable pub would_pass : (ℕ → ℕ) → List ℕ → ℕ → Bool
would_pass cap ts t = is_some (least_where (λ d. nat_lt (cap d) (up_to d t (ts ++ t ∷ []))) (suc t))

-- what is kept of offered ticks in order, where `kept` was kept before: those that would not pass the cap
abbrev pub keep_from : (ℕ → ℕ) → List ℕ → List ℕ → List ℕ
keep_from cap kept [] = kept
keep_from cap kept (t ∷ ts) = keep_from cap (cond (would_pass cap kept t) kept (kept ++ t ∷ [])) ts

-- of offered ticks in order, those that are not early
unfoldable pub admitted : (ℕ → ℕ) → List ℕ → List ℕ
admitted cap ts = keep_from cap [] ts

-- ---- the same by one number

-- the number after kept words of these ticks, where it was n before them: the greater of tick and number, and m more
abbrev pub pace_from : (m n : ℕ) → List ℕ → ℕ
pace_from m n [] = n
pace_from m n (t ∷ ts) = pace_from m (max t n + m) ts

-- from 0 at the start
unfoldable pub pace_of : (m : ℕ) → List ℕ → ℕ
pace_of m ts = pace_from m 0 ts
