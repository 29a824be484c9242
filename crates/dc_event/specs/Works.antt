-- Which actor lacks steps for a Tick.
use Rattle.std.specs.Prelude.{ℕ, suc, ◌<◌, List, length}
use Rattle.dc_bound.specs.Window.{HoldAtLeast}
use Rattle.dc_tables.specs.TableRows.{TableRows, router_row, output_row}
use Rattle.dc_event.specs.Time.{tick_after, route_ticks, send_ticks}
use Rattle.dc_event.specs.declared.event.Event.{Event}
use Rattle.dc_event.specs.declared.event.Actor.{Actor}
use Rattle.dc_event.specs.declared.event.Actor.TheVariants.{Wire, Router, Output, Clock}

-- the actor made its steps in each `within` whole ticks, were the running tick whole; wires and the clock owe none
abbrev pub Works : TableRows → List Event → Actor → Type 0
Works t run (Router r) = HoldAtLeast (router_row t r).steps (router_row t r).within (suc (tick_after run)) (route_ticks r run)
Works t run (Output o) = HoldAtLeast (output_row t o).steps (output_row t o).within (suc (tick_after run)) (send_ticks o run)
Works t run (Wire b) = Unit {0}
Works t run Clock = Unit {0}

-- the first actor, routers before outputs, that lacks steps for a Tick
abbrev pub IsFirstLacking : TableRows → List Event → Actor → Type 0
IsFirstLacking t run (Router r) = (r < length t.routers) × (¬ Works t run (Router r)) × ((q : ℕ) → q < r → Works t run (Router q))
IsFirstLacking t run (Output o) =
    (o < length t.outputs) × (¬ Works t run (Output o)) × ((r : ℕ) → r < length t.routers → Works t run (Router r)) × ((p : ℕ) → p < o → Works t run (Output p))
IsFirstLacking t run (Wire b) = ⊥
IsFirstLacking t run Clock = ⊥
