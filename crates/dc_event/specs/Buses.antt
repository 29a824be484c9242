-- A run as a bus sees it: its moves, its arrivals, its queue and its latch.
use Rattle.std.specs.Prelude.{ℕ, ◌-◌, Bool, cond, ◌==◌, ◌&&◌, Option, Some, None, is_some, List, [], ◌∷◌, length}
use Rattle.std.specs.List.{flat_map}
use Rattle.dc_bound.specs.Places.{each_place}
use Rattle.dc_bound.specs.Moves.{Move, entries, latch, entered, taken, item}
use Rattle.dc_bound.specs.Moves.Move.{Tick as TickMove, In, Visit}
use Rattle.dc_bound.specs.Tags.{with_tag}
use Rattle.dc_word.specs.Word.{is_odd}
use Rattle.dc_tables.specs.Declares.{stream_of}
use Rattle.dc_tables.specs.TableRows.{TableRows, bus_row, stream_row, visited}
use Rattle.dc_event.specs.Time.{routes}
use Rattle.dc_event.specs.Offers.{let_in, offer_of}
use Rattle.dc_event.specs.declared.event.Event.{Event}
use Rattle.dc_event.specs.declared.event.Event.TheVariants.{Tick, Arrive, Route, Send}

-- the bus that the router's next step visits
abbrev pub visited_bus : TableRows → ℕ → List Event → ℕ
visited_bus t r past = visited t r (routes r past)

-- a word of the stream of this number comes in, where there is one
abbrev pub in_of : Option ℕ → ℕ → List Move
in_of None w = []
in_of (Some s) w = In (s, w) ∷ []

-- What an event is to the bus, after the events of past; nothing, where it does not concern it. In comes an arrival: a word of odd parity
-- (ARINC Specification 429 Part 1, 2.3.4) whose label and SDI a stream of the bus declares, and that the bus does not refuse as early.
-- `arrival_of` says the same by what is offered (`Offers`), and the reply tests the three in the same order (`Replies`)
abbrev pub move_of : TableRows → ℕ → List Event → Event → List Move
move_of t b past Tick = TickMove ∷ []
move_of t b past (Arrive w a) = cond ((a == b) && is_odd w) (in_of (let_in t b past (stream_of t b w)) w) []
move_of t b past (Route r) = cond (visited_bus t r past == b) (Visit ∷ []) []
move_of t b past (Send o) = []

-- the stream of which the event is an arrival on the bus, after the events of past
abbrev pub arrival_of : TableRows → ℕ → List Event → Event → Option ℕ
arrival_of t b past e = let_in t b past (offer_of t b e)

-- the moves of a bus in a run
unfoldable pub moves : TableRows → ℕ → List Event → List Move
moves t b run = flat_map (λ ms. ms) (each_place (move_of t b) run)

-- the arrivals of a bus, as (tick, number of the stream)
abbrev pub bus_arrivals : TableRows → ℕ → List Event → List (ℕ × ℕ)
bus_arrivals t b run = entries (moves t b run)

-- the arrivals of a stream, as (tick, number of the stream)
abbrev pub arrivals : TableRows → ℕ → List Event → List (ℕ × ℕ)
arrivals t s run = with_tag s (bus_arrivals t (stream_row t s).bus run)

-- how many words the bus's queue holds
abbrev pub room : TableRows → ℕ → ℕ
room t b = (bus_row t b).queue

-- the place among its moves at which the bus latches: where more have come than a queue without end would have handed on and this one holds
abbrev pub latch_of : TableRows → ℕ → List Event → Option ℕ
latch_of t b run = latch (room t b) (moves t b run)

-- whether the bus has latched
abbrev pub is_latched : TableRows → ℕ → List Event → Bool
is_latched t b run = is_some (latch_of t b run)

-- the words that entered the bus's queue, those that came before its latch, each as (number of the stream, word)
abbrev pub bus_entered : TableRows → ℕ → List Event → List (ℕ × ℕ)
bus_entered t b run = entered (room t b) (moves t b run)

-- how many of them have been taken
abbrev pub bus_taken : TableRows → ℕ → List Event → ℕ
bus_taken t b run = taken (room t b) (moves t b run)

-- the entered word of this number, from 0, with the number of its stream
abbrev pub bus_item : TableRows → ℕ → List Event → ℕ → ℕ × ℕ
bus_item t b run n = item (room t b) (moves t b run) n

-- how many words wait in the queue
abbrev pub backlog : TableRows → ℕ → List Event → ℕ
backlog t b run = length (bus_entered t b run) - bus_taken t b run
