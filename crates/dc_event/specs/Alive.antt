-- Live sources.
use Rattle.std.specs.Prelude.{◌≡◌, ℕ, ◌+◌, ◌-◌, ◌≤◌, true, List}
use Rattle.std.specs.List.{All}
use Rattle.dc_bound.specs.Window.{count_in, ticks_of}
use Rattle.dc_bound.specs.Run.{stamped}
use Rattle.dc_bound.specs.Moves.{move_ends, came}
use Rattle.dc_word.specs.Format.{is_usable}
use Rattle.dc_tables.specs.TableRows.{TableRows, stream_row, label_row}
use Rattle.dc_event.specs.Time.{tick_after}
use Rattle.dc_event.specs.Buses.{moves, arrivals}
use Rattle.dc_event.specs.declared.event.Event.{Event}

-- the stream is a live source of the label: each `maximum` ticks of the last `stale` whole ticks hold an arrival of it
pub record IsAlive (t : TableRows) (x s : ℕ) (now : List Event) : Type 0 where
  pub old_enough : (label_row t x).stale ≤ tick_after now
  pub sends : (u : ℕ) → tick_after now - (label_row t x).stale ≤ u → u + (stream_row t s).maximum ≤ tick_after now → 1 ≤ count_in u (stream_row t s).maximum (ticks_of (arrivals t s now))

-- the words that came to a bus, as (tick, (number of the stream, word))
abbrev pub came_words : TableRows → ℕ → List Event → List (ℕ × (ℕ × ℕ))
came_words t b run = stamped move_ends came 0 (moves t b run)

-- the stream's words of the last `stale` whole ticks, and of the running one, are usable for the label
abbrev pub AreUsable : TableRows → ℕ → ℕ → List Event → Type 0
AreUsable t x s now = All (λ a. tick_after now - (label_row t x).stale ≤ a.0 → a.1.0 ≡ s → is_usable (label_row t x).format a.1.1 ≡ true) (came_words t (stream_row t s).bus now)
