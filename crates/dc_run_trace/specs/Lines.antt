-- The text of a run: a line for each event.
use Rattle.std.specs.Prelude.{ℕ, List, ◌∷◌, ◌++◌, codes, map}
use Rattle.dc_event.specs.ReplyText.{name_at}
use Rattle.dc_event.specs.WordText.{eight_hex}
use Rattle.dc_event.specs.declared.event.Event.{Event}
use Rattle.dc_event.specs.declared.event.Event.TheVariants.{Tick, Arrive, Route, Send}
use Rattle.dc_tables.specs.TableRows.{TableRows}

-- the line of an event
abbrev pub event_text : TableRows → Event → List ℕ
event_text t Tick = codes "T"
event_text t (Arrive w b) = codes "A " ++ name_at t.names.buses b ++ codes " " ++ eight_hex w
event_text t (Route r) = codes "R " ++ name_at t.names.routers r
event_text t (Send o) = codes "S " ++ name_at t.names.outputs o

-- the lines of a run
abbrev pub run_text : TableRows → List Event → List (List ℕ)
run_text t run = map (event_text t) run
