-- A run that never stops: every actor makes its steps in each tick.
use Rattle.std.specs.Prelude.{ℕ, zero, suc, ◌%◌, cond, ◌==◌, List, [], ◌∷◌, ◌++◌, length, replicate}
use Rattle.dc_tables.specs.TableRows.{TableRows, router_row, output_row}
use Rattle.dc_event.specs.declared.event.Event.{Event}
use Rattle.dc_event.specs.declared.event.Event.TheVariants.{Tick, Route, Send}

-- f 0, then f 1, .. then f (n - 1)
abbrev pub each_below : {X : Type 0} → (ℕ → List X) → ℕ → List X
each_below f zero = []
each_below f (suc n) = each_below f n ++ f n

-- a router makes as many steps as it may in one tick
abbrev pub router_steps : TableRows → ℕ → List Event
router_steps t r = replicate (router_row t r).most (Route r)

-- an output makes one send step in a tick that its gap divides
abbrev pub output_steps : TableRows → ℕ → ℕ → List Event
output_steps t tick o = cond (tick % (output_row t o).gap == 0) (Send o ∷ []) []

-- the events of a tick: the routers' steps, the outputs' sends, and the Tick that ends it
abbrev pub steady_tick : TableRows → ℕ → List Event
steady_tick t tick = each_below (router_steps t) (length t.routers) ++ (each_below (output_steps t tick) (length t.outputs) ++ Tick ∷ [])

-- the steady run of n ticks
unfoldable pub steady : TableRows → ℕ → List Event
steady t n = each_below (steady_tick t) n
