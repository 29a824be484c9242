-- The printed line of a reply.
use Rattle.std.specs.Prelude.{ℕ, Bool, true, false, ◌||◌, cond, List, [], ◌∷◌, ◌++◌, slice_index_or, codes, decimal}
use Rattle.std.specs.List.{flat_map}
use Rattle.dc_bound.specs.Places.{each_place}
use Rattle.dc_document.specs.Names.{text_of}
use Rattle.dc_tables.specs.TableRows.{TableRows}
use Rattle.dc_event.specs.Time.{tick_after}
use Rattle.dc_event.specs.Replies.{reply}
use Rattle.dc_event.specs.WordText.{eight_hex}
use Rattle.dc_event.specs.declared.event.Event.{Event}
use Rattle.dc_event.specs.declared.event.Event.TheVariants.{Tick, Arrive, Route, Send}
use Rattle.dc_event.specs.declared.event.Reply.{Reply}
use Rattle.dc_event.specs.declared.event.Reply.TheVariants.{Queued, BadParity, Undeclared, TooEarly, Overrun, Latched, Took, Empty, Sent, Idle, Now}

-- the name of a row's number
abbrev pub name_at : List (List ℕ) → ℕ → List ℕ
name_at names n = text_of (slice_index_or names n [])

-- whether a reply is printed without --all
abbrev pub is_reported : Reply → Bool
is_reported (Queued n) = false
is_reported BadParity = true
is_reported Undeclared = true
is_reported TooEarly = true
is_reported Overrun = true
is_reported Latched = true
is_reported (Took w b) = false
is_reported (Empty b) = false
is_reported (Sent l w) = true
is_reported Idle = false
is_reported (Now n) = false

-- what is printed of an arrival's reply after the bus
abbrev pub arrival_text : ℕ → Reply → List ℕ
arrival_text w (Queued n) = codes " queued " ++ decimal n
arrival_text w BadParity = codes " parity " ++ eight_hex w
arrival_text w Undeclared = codes " undeclared " ++ eight_hex w
arrival_text w TooEarly = codes " early " ++ eight_hex w
arrival_text w Overrun = codes " overrun " ++ eight_hex w
arrival_text w Latched = codes " latched " ++ eight_hex w
arrival_text w _ = []

-- of a routing step's reply after the router
abbrev pub routing_text : TableRows → Reply → List ℕ
routing_text t (Took w b) = codes " took " ++ name_at t.names.buses b ++ codes " " ++ eight_hex w
routing_text t (Empty b) = codes " empty " ++ name_at t.names.buses b
routing_text t _ = []

-- of a send's reply after the output
abbrev pub sending_text : Reply → List ℕ
sending_text (Sent l w) = codes " " ++ eight_hex w
sending_text Idle = codes " idle"
sending_text _ = []

-- the line of an event and its reply, with the tick of the event, for a Tick the new one
unfoldable pub reply_line : TableRows → ℕ → Event → Reply → List ℕ
reply_line t tick Tick r = decimal tick ++ codes " tick"
reply_line t tick (Arrive w b) r = decimal tick ++ codes " " ++ name_at t.names.buses b ++ arrival_text w r
reply_line t tick (Route q) r = decimal tick ++ codes " " ++ name_at t.names.routers q ++ routing_text t r
reply_line t tick (Send o) r = decimal tick ++ codes " " ++ name_at t.names.outputs o ++ sending_text r

-- the lines that an event prints, after the events of past, with --all or without
abbrev pub event_lines : TableRows → Bool → List Event → Event → List (List ℕ)
event_lines t all past e = cond (all || is_reported (reply t past e)) (reply_line t (tick_after (past ++ e ∷ [])) e (reply t past e) ∷ []) []

-- the lines that a run prints
unfoldable pub run_lines : TableRows → Bool → List Event → List (List ℕ)
run_lines t all run = flat_map (λ ls. ls) (each_place (event_lines t all) run)
