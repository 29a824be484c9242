-- What is carried along a run of what came to its buses.
use Rattle.std.specs.Prelude.{◌≡◌, ℕ, ◌<◌, Bool, true, false, Option, Some, None, List, [], length, slice_index_or}
use Rattle.dc_bound.specs.Window.{ticks_of}
use Rattle.dc_tables.specs.TableRows.{TableRows, stream_row}
use Rattle.dc_event.specs.Time.{tick_after}
use Rattle.dc_event.specs.Buses.{arrivals, arrival_of}
use Rattle.dc_event.specs.Latest.{latest_arrived}
use Rattle.dc_event.specs.Alive.{came_words}
use Rattle.dc_event.specs.declared.event.Event.{Event}
use Rattle.dc_event.specs.declared.event.Event.TheVariants.{Arrive}
use Rattle.dc_event.specs.declared.event.Reply.{Reply}
use Rattle.dc_event.specs.declared.event.Reply.TheVariants.{Queued, BadParity, Undeclared, TooEarly, Overrun, Latched, Took, Empty, Sent, Idle, Now}
use Rattle.dc_oracle.specs.declared.arrivals.ArrivalWatch.{ArrivalWatch}
use Rattle.dc_oracle.specs.Life.{IsLife, no_life}

-- whether the reply to a word tells an arrival
abbrev pub is_arrival : Reply → Bool
is_arrival (Queued n) = true
is_arrival BadParity = false
is_arrival Undeclared = false
is_arrival TooEarly = false
is_arrival Overrun = true
is_arrival Latched = true
is_arrival (Took w b) = false
is_arrival (Empty b) = false
is_arrival (Sent l w) = false
is_arrival Idle = false
is_arrival (Now n) = false

-- the bus from which the reply tells a word to be taken
abbrev pub taken_bus : Reply → Option ℕ
taken_bus (Queued n) = None
taken_bus BadParity = None
taken_bus Undeclared = None
taken_bus TooEarly = None
taken_bus Overrun = None
taken_bus Latched = None
taken_bus (Took w b) = Some b
taken_bus (Empty b) = None
taken_bus (Sent l w) = None
taken_bus Idle = None
taken_bus (Now n) = None

-- the word is an arrival of this stream, of the bus alone; or it is none
pub record ArrivesOf (t : TableRows) (run : List Event) (b w s : ℕ) : Type 0 where
  pub there : s < length t.streams
  pub bus : (stream_row t s).bus ≡ b
  pub here : arrival_of t b run (Arrive w b) ≡ Some s
  pub elsewhere : (a : ℕ) → (b ≡ a → ⊥) → arrival_of t a run (Arrive w b) ≡ None

-- after the run, the word on the bus is an arrival of this stream and of no other bus; or, of no stream, none on any bus
abbrev pub Arrives : TableRows → List Event → ℕ → ℕ → Option ℕ → Type 0
Arrives t run b w None = (a : ℕ) → arrival_of t a run (Arrive w b) ≡ None
Arrives t run b w (Some s) = ArrivesOf t run b w s

-- a part for each stream of the tables
pub record IsSized (t : TableRows) (w : ArrivalWatch) : Type 0 where
  pub lives : length w.lives.items ≡ length t.streams
  pub latest : length w.latest.items ≡ length t.streams

-- how the streams have come, and the ticks of the latest words, are those of the run
pub record Follows (t : TableRows) (w : ArrivalWatch) (run : List Event) : Type 0 where
  pub lives : (s : ℕ) → s < length t.streams → IsLife (stream_row t s).maximum s (tick_after run) (ticks_of (arrivals t s run)) (came_words t (stream_row t s).bus run) (slice_index_or w.lives.items s no_life)
  pub latest : (s : ℕ) → s < length t.streams → slice_index_or w.latest.items s None ≡ latest_arrived t s run
