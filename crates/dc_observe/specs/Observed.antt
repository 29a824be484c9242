-- How near a run came to its bounds, over its whole history.
use Rattle.std.specs.Prelude.{ℕ, zero, suc, ◌-◌, min, max, cond, nat_lt, ◌==◌, if◌then◌else◌, Option, Some, None, option_map, List, [], ◌∷◌, ◌++◌, length, take}
use Rattle.std.specs.List.{flat_map}
use Rattle.dc_bound.specs.Moves.{arrived_tick, routed_tick}
use Rattle.dc_bound.specs.Places.{each_place, first_place}
use Rattle.dc_bound.specs.Rounds.{greatest_to}
use Rattle.dc_tables.specs.TableRows.{TableRows}
use Rattle.dc_event.specs.Time.{tick_after}
use Rattle.dc_event.specs.Buses.{moves, room, backlog, bus_entered, bus_taken}
use Rattle.dc_event.specs.Outputs.{due_tick, due_by, sent}
use Rattle.dc_event.specs.Choice.{chosen_source}
use Rattle.dc_event.specs.Latest.{latest_arrived}
use Rattle.dc_event.specs.Emissions.{emission, emission_ticks}
use Rattle.dc_event.specs.declared.event.Event.{Event}

-- the greatest of f 0, .., f (n - 1); 0 where n is 0
abbrev pub greatest_below : ℕ → (ℕ → ℕ) → ℕ
greatest_below zero f = 0
greatest_below (suc n) f = max (greatest_below n f) (f n)

-- ---- an input

-- the most words that waited in the bus's queue at any place of the run
unfoldable pub greatest_backlog : TableRows → ℕ → List Event → ℕ
greatest_backlog t b run = greatest_to (length run) (λ i. backlog t b (take i run))

-- how many ticks after it came the entered word of this number was taken; of a word that still waits, how many it has waited
abbrev pub wait_of : TableRows → ℕ → List Event → ℕ → ℕ
wait_of t b run n =
    let ms = moves t b run in
    (if nat_lt n (bus_taken t b run) then routed_tick (room t b) n ms else tick_after run) - arrived_tick n ms

-- the greatest of them
unfoldable pub greatest_wait : TableRows → ℕ → List Event → ℕ
greatest_wait t b run = greatest_below (length (bus_entered t b run)) (wait_of t b run)

-- ---- an output

-- the events before the one by which more than n entries had left; all, where there is none
abbrev pub before_sent : TableRows → ℕ → ℕ → List Event → List Event
before_sent t o n run = (elim (first_place (λ past. nat_lt n (sent t o past)) run) [ None ↦ run | Some i ↦ take (i - 1) run ])

-- how many ticks after it was due the entry of this number left; of one that did not, how many it is late
abbrev pub late_of : TableRows → ℕ → List Event → ℕ → ℕ
late_of t o run n = tick_after (before_sent t o n run) - due_tick t o n

-- the greatest of the entries that were due
unfoldable pub greatest_late : TableRows → ℕ → List Event → ℕ
greatest_late t o run = greatest_below (due_by t o (tick_after run)) (late_of t o run)

-- ---- a label

-- the age in ticks of the word that the label copies at this event, as it leaves; None where it copies none
abbrev pub age_of_sent : TableRows → ℕ → List Event → Event → Option ℕ
age_of_sent t x past e = (elim (chosen_source t x (past ++ e ∷ [])) [ None ↦ None | Some c ↦ option_map (λ came. tick_after past - came) (latest_arrived t c.0 (past ++ e ∷ [])) ])

-- the same, where it is this label that is emitted
abbrev pub age_if : TableRows → ℕ → List Event → Event → Option ℕ → List (Option ℕ)
age_if t x past e None = []
age_if t x past e (Some y) = cond (y == x) (age_of_sent t x past e ∷ []) []

-- the ages of its emissions, in order
unfoldable pub ages_of : TableRows → ℕ → List Event → List (Option ℕ)
ages_of t x run = flat_map (λ a. a) (each_place (λ past e. age_if t x past e (emission t past e)) run)

-- how many of them copied none
abbrev pub count_none : List (Option ℕ) → ℕ
count_none [] = 0
count_none (None ∷ rest) = suc (count_none rest)
count_none (Some a ∷ rest) = count_none rest

-- the greatest age; None where nothing was copied
abbrev pub greatest_age : List (Option ℕ) → Option ℕ
greatest_age [] = None
greatest_age (None ∷ rest) = greatest_age rest
greatest_age (Some a ∷ rest) = Some ((elim (greatest_age rest) [ None ↦ a | Some b ↦ max a b ]))

-- the intervals between neighbouring ticks
abbrev pub gaps : List ℕ → List ℕ
gaps [] = []
gaps (a ∷ []) = []
gaps (a ∷ b ∷ ts) = (b - a) ∷ gaps (b ∷ ts)

-- the least of some numbers; None where there are none
abbrev pub least_of : List ℕ → Option ℕ
least_of [] = None
least_of (a ∷ rest) = Some ((elim (least_of rest) [ None ↦ a | Some b ↦ min a b ]))

-- the greatest of some numbers; 0 where there are none
abbrev pub greatest_of : List ℕ → ℕ
greatest_of [] = 0
greatest_of (a ∷ rest) = max a (greatest_of rest)

-- the intervals between a label's emissions; and with those from the start to the first, and from the last to the end
abbrev pub inner_gaps : TableRows → ℕ → List Event → List ℕ
inner_gaps t x run = gaps (emission_ticks t x run)

abbrev pub all_gaps : TableRows → ℕ → List Event → List ℕ
all_gaps t x run = gaps (0 ∷ (emission_ticks t x run ++ tick_after run ∷ []))

-- how often the label was sent, and how often as its fallback
abbrev pub sent_count : TableRows → ℕ → List Event → ℕ
sent_count t x run = length (ages_of t x run)

abbrev pub fallback_count : TableRows → ℕ → List Event → ℕ
fallback_count t x run = count_none (ages_of t x run)

-- the greatest age of a word that it copied, when that left; None where it copied none
abbrev pub oldest_copy : TableRows → ℕ → List Event → Option ℕ
oldest_copy t x run = greatest_age (ages_of t x run)

-- the least interval between two emissions; None where there were fewer than two
abbrev pub least_interval : TableRows → ℕ → List Event → Option ℕ
least_interval t x run = least_of (inner_gaps t x run)

-- the greatest interval, with that to the first emission and that to the end
abbrev pub greatest_interval : TableRows → ℕ → List Event → ℕ
greatest_interval t x run = greatest_of (all_gaps t x run)
