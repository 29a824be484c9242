-- Which runs are admissible: their numbers are in the tables, their sources send no sooner than the tables let them, their actors keep their budgets.
use Rattle.std.specs.Prelude.{◌≡◌, false, ℕ, ◌<◌, List, length}
use Rattle.std.specs.List.{All}
use Rattle.dc_bound.specs.Window.{HoldAtLeast, HoldAtMost, HoldsWire, ticks_of}
use Rattle.dc_tables.specs.TableRows.{TableRows, bus_row, stream_row, router_row, output_row, is_policed}
use Rattle.dc_event.specs.Time.{tick_after, route_ticks, send_ticks}
use Rattle.dc_bound.specs.Early.{HoldsCap}
use Rattle.dc_event.specs.Offers.{cap_of}
use Rattle.dc_event.specs.Buses.{bus_arrivals, arrivals}
use Rattle.dc_event.specs.declared.event.Event.{Event}
use Rattle.dc_event.specs.declared.event.Event.TheVariants.{Tick, Arrive, Route, Send}

-- the number of an event is in the tables
abbrev pub IsNumbered : TableRows → Event → Type 0
IsNumbered t Tick = Unit {0}
IsNumbered t (Arrive w b) = b < length t.buses
IsNumbered t (Route r) = r < length t.routers
IsNumbered t (Send o) = o < length t.outputs

-- a run of these tables: each event's number is in them
abbrev pub IsRun : TableRows → List Event → Type 0
IsRun t run = All (IsNumbered t) run

-- On a bus that is not policed, any d consecutive ticks hold at most (d + jitter) / minimum arrivals of a stream, rounded up (without jitter:
-- any `minimum` ticks hold at most one), and its wire brings no more than it can. Of a policed bus nothing is asked
pub record KeepsSources (t : TableRows) (run : List Event) : Type 0 where
  pub streams_rest : (s : ℕ) → s < length t.streams → is_policed t (stream_row t s).bus ≡ false → HoldsCap (cap_of t s) (ticks_of (arrivals t s run))
  pub wires_rest : (b : ℕ) → b < length t.buses → is_policed t b ≡ false → HoldsWire t.tick_us (bus_row t b).spacing (ticks_of (bus_arrivals t b run))

-- each actor makes its steps in each `within` whole ticks; a router makes at most `most` in one tick; sends are at least the gap apart
pub record KeepsBudgets (t : TableRows) (run : List Event) : Type 0 where
  pub routers_work : (r : ℕ) → r < length t.routers → HoldAtLeast (router_row t r).steps (router_row t r).within (tick_after run) (route_ticks r run)
  pub routers_rest : (r : ℕ) → r < length t.routers → HoldAtMost (router_row t r).most 1 (route_ticks r run)
  pub outputs_work : (o : ℕ) → o < length t.outputs → HoldAtLeast (output_row t o).steps (output_row t o).within (tick_after run) (send_ticks o run)
  pub outputs_rest : (o : ℕ) → o < length t.outputs → HoldAtMost 1 (output_row t o).gap (send_ticks o run)

-- a run of these tables that keeps both
pub record IsAdmissible (t : TableRows) (run : List Event) : Type 0 where
  pub numbers : IsRun t run
  pub sources : KeepsSources t run
  pub budgets : KeepsBudgets t run
