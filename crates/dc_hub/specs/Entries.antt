-- The entries of a book, and what makes them legal.
use Rattle.std.specs.Prelude.{◌≡◌, ℕ, ◌+◌, Bool, true, false, cond, List, [], ◌∷◌, map}
use Rattle.dc_event.specs.Admissible.{IsRun, KeepsBudgets}
use Rattle.dc_event.specs.Replies.{outputs_of}
use Rattle.dc_event.specs.declared.event.Actor.{Actor}
use Rattle.dc_event.specs.declared.event.Actor.TheVariants.{Wire, Router, Output, Clock}
use Rattle.dc_event.specs.declared.event.Event.{Event}
use Rattle.dc_event.specs.declared.event.Event.TheVariants.{Tick, Arrive, Route, Send}
use Rattle.dc_event.specs.declared.event.Reply.{Reply}
use Rattle.dc_event.specs.declared.event.Reply.TheVariants.{Queued, BadParity, Undeclared, TooEarly, Overrun, Latched, Took, Empty, Sent, Idle, Now}
use Rattle.dc_hub.specs.declared.entry.Entry.{Entry}
use Rattle.dc_tables.specs.TableRows.{TableRows}

-- who makes the step
abbrev pub actor_of : Event → Actor
actor_of Tick = Clock
actor_of (Arrive w b) = Wire b
actor_of (Route r) = Router r
actor_of (Send o) = Output o

-- the backlog that a reply tells, 0 where it tells none
abbrev pub backlog_of : Reply → ℕ
backlog_of (Queued n) = n
backlog_of BadParity = 0
backlog_of Undeclared = 0
backlog_of TooEarly = 0
backlog_of Overrun = 0
backlog_of Latched = 0
backlog_of (Took w b) = 0
backlog_of (Empty b) = 0
backlog_of (Sent l w) = 0
backlog_of Idle = 0
backlog_of (Now n) = 0

-- what the book keeps of a call: its event and the reply to it
abbrev pub entry : Event → Reply → Entry
entry e r = record { event = e; reply = r }

-- the run of the entries
abbrev pub events : List Entry → List Event
events es = map (λ (e : Entry). e.event) es

-- the replies of the entries
abbrev pub replies : List Entry → List Reply
replies es = map (λ (e : Entry). e.reply) es

-- the events are a run of the tables that keeps the budgets, and the replies are its outputs
pub record IsLegal (t : TableRows) (es : List Entry) : Type 0 where
  pub numbers : IsRun t (events es)
  pub budgets : KeepsBudgets t (events es)
  pub answers : replies es ≡ outputs_of t (events es)

-- whether the reply tells that a word was lost and its bus latched
abbrev pub is_overrun : Reply → Bool
is_overrun (Queued n) = false
is_overrun BadParity = false
is_overrun Undeclared = false
is_overrun TooEarly = false
is_overrun Overrun = true
is_overrun Latched = false
is_overrun (Took w b) = false
is_overrun (Empty b) = false
is_overrun (Sent l w) = false
is_overrun Idle = false
is_overrun (Now n) = false

-- how many replies are overruns
abbrev pub overruns_in : List Entry → ℕ
overruns_in [] = 0
overruns_in (e ∷ es) = cond (is_overrun e.reply) 1 0 + overruns_in es
