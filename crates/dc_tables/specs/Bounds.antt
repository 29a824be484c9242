-- Rows that were made, and what tables keep beside them for the bounds of buses and outputs.
use Rattle.std.specs.Prelude.{◌≡◌, ℕ, ◌*◌, List, map}
use Rattle.std.specs.List.{sum_by}
use Rattle.dc_bound.specs.Early.{jitter_cap}
use Rattle.dc_bound.specs.declared.jitter.Jittered.{Jittered}
use Rattle.dc_bound.specs.declared.alike.Alike.{Alike}
use Rattle.dc_tables.specs.declared.rows.Stream.{Stream}
use Rattle.dc_tables.specs.declared.rows.Output.{Output}
use Rattle.dc_tables.specs.declared.made.Rows.{Rows}
use Rattle.dc_tables.specs.declared.index.Names.{Names}
use Rattle.dc_tables.specs.TableNames.{TableNames}
use Rattle.dc_tables.specs.TableRows.{TableRows, stream_cap}

-- the most words of such a stream in d ticks
abbrev pub jittered_cap : ℕ → Jittered → ℕ
jittered_cap d bound = jitter_cap bound.minimum bound.jitter d

-- the most words of so many streams that are alike, in d ticks
abbrev pub alike_cap : ℕ → Alike → ℕ
alike_cap d bound = bound.sources * jittered_cap d bound.each

-- these bounds together are those of the streams, for any number of ticks
abbrev pub AreBoundsOf : List Alike → List Stream → Type 0
AreBoundsOf bounds streams = (d : ℕ) → sum_by (alike_cap d) bounds ≡ sum_by (stream_cap d) streams

-- the offsets of each output's entries
abbrev pub frame_offsets : List Output → List (List ℕ)
frame_offsets outputs = map (λ o. map (λ e. e.offset) o.entries) outputs

-- the names that are looked up, as their lists
abbrev pub table_names : Names → TableNames
table_names names = record { buses = names.buses; streams = names.streams; routers = names.routers; outputs = names.outputs; labels = names.labels }

-- the rows with their names and the length of a tick
abbrev pub table_rows : ℕ → TableNames → Rows → TableRows
table_rows tick_us names rows =
    record { tick_us = tick_us; buses = rows.buses.items; streams = rows.streams.items; routers = rows.routers.items; outputs = rows.outputs.items; labels = rows.labels.items; names = names }
