-- What is carried along a run of what policed buses let in.
use Rattle.std.specs.Prelude.{◌≡◌, ℕ, ◌<◌, ◌&&◌, Bool, true, false, List, [], ◌∷◌, ◌++◌, length, slice_index_or}
use Rattle.dc_bound.specs.Window.{ticks_of}
use Rattle.dc_word.specs.Word.{is_odd}
use Rattle.dc_tables.specs.Declares.{stream_of}
use Rattle.dc_tables.specs.TableRows.{TableRows, stream_row, is_policed}
use Rattle.dc_event.specs.Time.{tick_after}
use Rattle.dc_event.specs.Offers.{refuses_early}
use Rattle.dc_event.specs.Buses.{arrivals}
use Rattle.dc_event.specs.declared.event.Event.{Event}
use Rattle.dc_event.specs.declared.event.Event.TheVariants.{Tick, Arrive, Route, Send}
use Rattle.dc_oracle.specs.declared.police.Police.{Police}
use Rattle.dc_oracle.specs.Pace.{IsPaceOf, no_pace}

-- whether the event brings an odd word that a policed bus refuses as early
abbrev pub is_refused : TableRows → List Event → Event → Bool
is_refused t run Tick = false
is_refused t run (Arrive w b) = is_odd w && refuses_early t b run (stream_of t b w)
is_refused t run (Route r) = false
is_refused t run (Send o) = false

-- the tick, and the pace of each stream of a policed bus, are those of the run
pub record Polices (t : TableRows) (p : Police) (run : List Event) : Type 0 where
  pub clock : p.tick ≡ tick_after run
  pub paces : (s : ℕ) → s < length t.streams → is_policed t (stream_row t s).bus ≡ true → IsPaceOf (stream_row t s).minimum (tick_after run) (ticks_of (arrivals t s run)) (slice_index_or p.paces.items s no_pace)

-- they are those of the run with the event, and the answer is the event's
pub record Judges (t : TableRows) (new : Police) (run : List Event) (e : Event) (refused : Bool) : Type 0 where
  pub holds : Polices t new (run ++ e ∷ [])
  pub answer : refused ≡ is_refused t run e
