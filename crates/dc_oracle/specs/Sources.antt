-- What is carried along a run of what its sources did.
use Rattle.std.specs.Prelude.{◌≡◌, ℕ, ◌<◌, Bool, true, false, List, [], ◌∷◌, ◌++◌, length, slice_index_or}
use Rattle.dc_bound.specs.Window.{ticks_of}
use Rattle.dc_tables.specs.TableRows.{TableRows, bus_row, stream_row, is_policed}
use Rattle.dc_event.specs.Time.{tick_after}
use Rattle.dc_event.specs.Buses.{bus_arrivals, arrivals}
use Rattle.dc_event.specs.Admissible.{KeepsSources}
use Rattle.dc_event.specs.declared.event.Event.{Event}
use Rattle.dc_oracle.specs.declared.sources.SourceWatch.{SourceWatch}
use Rattle.dc_oracle.specs.Pace.{IsPaceOf, no_pace}
use Rattle.dc_oracle.specs.WireLoad.{IsLoad, no_load}

-- a part for each stream and each bus of the tables
pub record IsSized (t : TableRows) (w : SourceWatch) : Type 0 where
  pub streams : length w.streams.items ≡ length t.streams
  pub wires : length w.wires.items ≡ length t.buses

-- the run keeps the sources' caps, and this is what the sources of buses that are not policed did in it
pub record Watches (t : TableRows) (w : SourceWatch) (run : List Event) : Type 0 where
  pub kept : KeepsSources t run
  pub clock : w.tick ≡ tick_after run
  pub paces : (s : ℕ) → s < length t.streams → is_policed t (stream_row t s).bus ≡ false → IsPaceOf (stream_row t s).minimum (tick_after run) (ticks_of (arrivals t s run)) (slice_index_or w.streams.items s no_pace)
  pub loads : (b : ℕ) → b < length t.buses → is_policed t b ≡ false → IsLoad t.tick_us (bus_row t b).spacing (tick_after run) (ticks_of (bus_arrivals t b run)) (slice_index_or w.wires.items b no_load)

-- the run with one event more keeps it too, or not
abbrev pub Seen : TableRows → SourceWatch → List Event → Event → Bool → Type 0
Seen t w run e true = Watches t w (run ++ e ∷ [])
Seen t w run e false = ¬ KeepsSources t (run ++ e ∷ [])
