-- A run is the list of its events in order. What holds up to place i, counted from 1, is said of its beginning `take i run`.
use Rattle.std.specs.Prelude.{ℕ, List, Option, Some, None, cond, ◌==◌}
use Rattle.dc_bound.specs.Window.{ticks_of}
use Rattle.dc_bound.specs.Run.{ticks, picks, stamped}
use Rattle.dc_event.specs.declared.event.Event.{Event}
use Rattle.dc_event.specs.declared.event.Event.TheVariants.{Tick, Arrive, Route, Send}

-- how many ticks an event ends
abbrev pub ends : Event → ℕ
ends Tick = 1
ends (Arrive w b) = 0
ends (Route r) = 0
ends (Send o) = 0

-- the tick after these events: how many Ticks there are. Each tick below it is whole
abbrev pub tick_after : List Event → ℕ
tick_after run = ticks ends run

-- a step of the router
abbrev pub route_of : ℕ → Event → Option ℕ
route_of r Tick = None
route_of r (Arrive w b) = None
route_of r (Route q) = cond (q == r) (Some q) None
route_of r (Send o) = None

-- a send step of the output
abbrev pub send_of : ℕ → Event → Option ℕ
send_of o Tick = None
send_of o (Arrive w b) = None
send_of o (Route r) = None
send_of o (Send q) = cond (q == o) (Some q) None

-- how many steps the router has made
abbrev pub routes : ℕ → List Event → ℕ
routes r run = picks (route_of r) run

-- how many send steps the output has made
abbrev pub sends : ℕ → List Event → ℕ
sends o run = picks (send_of o) run

-- the ticks of the router's steps
abbrev pub route_ticks : ℕ → List Event → List ℕ
route_ticks r run = ticks_of (stamped ends (route_of r) 0 run)

-- the ticks of the output's send steps
abbrev pub send_ticks : ℕ → List Event → List ℕ
send_ticks o run = ticks_of (stamped ends (send_of o) 0 run)
