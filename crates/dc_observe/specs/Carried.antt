-- What is carried along a run of how near it came to its bounds.
use Rattle.std.specs.Prelude.{ℕ, ◌+◌, ◌-◌, ◌^◌, min, max, Option, Some, None, List, [], ◌∷◌}
use Rattle.dc_bound.specs.Moves.{arrived_tick, routed_tick}
use Rattle.dc_tables.specs.TableRows.{TableRows}
use Rattle.dc_event.specs.Buses.{moves, room, bus_taken}
use Rattle.dc_event.specs.Outputs.{sent}
use Rattle.dc_event.specs.Emissions.{emission_ticks}
use Rattle.dc_event.specs.declared.event.Event.{Event}
use Rattle.dc_observe.specs.Observed.{greatest_below, late_of, gaps, greatest_of}

-- how many ticks after it came the word of this number was taken
abbrev pub taken_wait : TableRows → ℕ → List Event → ℕ → ℕ
taken_wait t b run n = routed_tick (room t b) n (moves t b run) - arrived_tick n (moves t b run)

-- the greatest of the words that were taken
unfoldable pub longest_taken : TableRows → ℕ → List Event → ℕ
longest_taken t b run = greatest_below (bus_taken t b run) (taken_wait t b run)

-- how late the latest of the entries was that left
unfoldable pub latest_sent : TableRows → ℕ → List Event → ℕ
latest_sent t o run = greatest_below (sent t o run) (late_of t o run)

-- the greatest interval between a label's emissions, with that from the start to the first
unfoldable pub greatest_so_far : TableRows → ℕ → List Event → ℕ
greatest_so_far t x run = greatest_of (gaps (0 ∷ emission_ticks t x run))

-- the last of some ticks
abbrev pub last_of : List ℕ → Option ℕ
last_of [] = None
last_of (a ∷ []) = Some a
last_of (a ∷ b ∷ ts) = last_of (b ∷ ts)

-- a tick, or 0 where there is none
abbrev pub or_zero : Option ℕ → ℕ
or_zero None = 0
or_zero (Some k) = k

-- the greater of two ages, of which there may be none
abbrev pub elder : Option ℕ → Option ℕ → Option ℕ
elder None age = age
elder (Some a) None = Some a
elder (Some a) (Some b) = Some (max a b)

-- the lesser of what there was and one more
abbrev pub lesser : Option ℕ → ℕ → ℕ
lesser None k = k
lesser (Some a) k = min a k

-- the least interval, with one more tick behind the last
abbrev pub least_with : Option ℕ → Option ℕ → ℕ → Option ℕ
least_with least None tick = least
least_with least (Some last) tick = Some (lesser least (tick - last))

-- one more, up to the greatest number
abbrev pub one_more : ℕ → ℕ
one_more n = min (n + 1) (2 ^ 64 - 1)
