-- The reply to each event of a run.
use Rattle.std.specs.Prelude.{ℕ, ◌+◌, if◌then◌else◌, not, nat_lt, is_some, List, [], ◌∷◌, ◌++◌}
use Rattle.dc_bound.specs.Places.{each_place}
use Rattle.dc_word.specs.Word.{is_odd}
use Rattle.dc_tables.specs.Declares.{stream_of}
use Rattle.dc_tables.specs.TableRows.{TableRows, label_row}
use Rattle.dc_event.specs.Time.{tick_after}
use Rattle.dc_event.specs.Offers.{refuses_early}
use Rattle.dc_event.specs.Buses.{visited_bus, is_latched, bus_taken, bus_item, backlog}
use Rattle.dc_event.specs.Outputs.{entry_label, sent}
use Rattle.dc_event.specs.Choice.{chosen}
use Rattle.dc_event.specs.declared.event.Event.{Event}
use Rattle.dc_event.specs.declared.event.Event.TheVariants.{Tick, Arrive, Route, Send}
use Rattle.dc_event.specs.declared.event.Reply.{Reply}
use Rattle.dc_event.specs.declared.event.Reply.TheVariants.{Queued, BadParity, Undeclared, TooEarly, Overrun, Latched, Took, Empty, Sent, Idle, Now}

-- the first that applies: even parity, an undeclared word, a word that the bus refuses as early, a latched bus, a full queue; else the word is queued
abbrev pub arrive_reply : TableRows → List Event → ℕ → ℕ → Reply
arrive_reply t past b w =
    let now = past ++ Arrive w b ∷ [] in
    if not (is_odd w) then BadParity
    else if not (is_some (stream_of t b w)) then Undeclared
    else if refuses_early t b past (stream_of t b w) then TooEarly
    else if is_latched t b past then Latched
    else if is_latched t b now then Overrun
    else Queued (backlog t b now)

-- the reply to an event after the events of past
unfoldable pub reply : TableRows → List Event → Event → Reply
reply t past (Arrive w b) = arrive_reply t past b w
reply t past (Route r) =
    let b = visited_bus t r past in
    if nat_lt (bus_taken t b past) (bus_taken t b (past ++ Route r ∷ [])) then Took (bus_item t b past (bus_taken t b past)).1 b else Empty b
reply t past (Send o) =
    let x = entry_label t o (sent t o past) in
    if nat_lt (sent t o past) (sent t o (past ++ Send o ∷ [])) then Sent (label_row t x).label (chosen t x (past ++ Send o ∷ [])) else Idle
reply t past Tick = Now (tick_after past + 1)

-- the outputs of a run: the reply to each of its events, in order
unfoldable pub outputs_of : TableRows → List Event → List Reply
outputs_of t run = each_place (reply t) run
