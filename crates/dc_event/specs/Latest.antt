-- The latest word of a stream.
use Rattle.std.specs.Prelude.{ℕ, Bool, ◌==◌, Option, Some, None, List}
use Rattle.dc_bound.specs.Moves.{latest_by, latest_number, arrived_tick}
use Rattle.dc_tables.specs.TableRows.{TableRows, stream_row}
use Rattle.dc_event.specs.Buses.{moves, room}
use Rattle.dc_event.specs.declared.event.Event.{Event}

-- whether an item is of the stream
abbrev pub is_of_stream : ℕ → ℕ × ℕ → Bool
is_of_stream s x = x.0 == s

-- the latest word of the stream among those taken from its bus, with the number of the stream, and the tick in which it was routed
unfoldable pub latest : TableRows → ℕ → List Event → Option ((ℕ × ℕ) × ℕ)
latest t s run =
    let b = (stream_row t s).bus in
    latest_by (room t b) (is_of_stream s) (moves t b run)

-- the tick in which that word came to its bus
unfoldable pub latest_arrived : TableRows → ℕ → List Event → Option ℕ
latest_arrived t s run =
    let b = (stream_row t s).bus in
    let ms = moves t b run in
    (elim (latest_number (room t b) (is_of_stream s) ms) [ None ↦ None | Some n ↦ Some (arrived_tick n ms) ])
