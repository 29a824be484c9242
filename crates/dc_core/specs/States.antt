-- The states of a bus, a router and an output, and what becomes of them.
use Rattle.std.specs.Prelude.{◌≡◌, ℕ, ◌+◌, ◌<◌, ◌≤◌, Bool, true, false, Option, Some, None, List, [], ◌∷◌, ◌++◌, length, slice_index_or}
use Rattle.dc_queue.specs.QueueData.{QueueData}
use Rattle.dc_queue.specs.WindowData.{empty_window, added, turned}
use Rattle.dc_route.specs.Routing.{queue_at, moved_on}
use Rattle.dc_tables.specs.TableRows.{TableRows}
use Rattle.dc_event.specs.declared.event.Reply.{Reply}
use Rattle.dc_event.specs.declared.event.Reply.TheVariants.{Queued, Overrun, Latched, Took, Empty}
use Rattle.dc_core.specs.declared.states.RouterState.{RouterState}
use Rattle.dc_core.specs.declared.states.OutputState.{OutputState}

-- a bus: its queue, and whether it has latched
pub record BusData : Type 0 where
  pub queue : QueueData
  pub latched : Bool

-- the bus of this number
abbrev pub bus_at : List QueueData → List Bool → ℕ → BusData
bus_at queues latches b = record { queue = queue_at queues b; latched = slice_index_or latches b false }

-- what stands for the state of a router that is not in the tables
abbrev pub no_router : RouterState
no_router = record { router = record { number = 0; cursor = 0 }; window = empty_window 0 0 }

-- what stands for the state of an output that is not in the tables
abbrev pub no_output : OutputState
no_output = record { sent = 0; last = None; window = empty_window 0 0 }

-- what a bus does with a declared word
pub record Receives (old : BusData) (w : ℕ) (r : Reply) (new : BusData) : Type 0 where
  pub shut : old.latched ≡ true → (r ≡ Latched) × (new ≡ old)
  pub full : old.latched ≡ false → old.queue.limit ≤ length old.queue.words → (r ≡ Overrun) × (new.latched ≡ true) × (new.queue ≡ old.queue)
  pub free : old.latched ≡ false → length old.queue.words < old.queue.limit → (r ≡ Queued (length old.queue.words + 1)) × (new.latched ≡ false) × (new.queue ≡ record { words = old.queue.words ++ w ∷ []; limit = old.queue.limit })

-- the reply to a visit of the bus that takes this word, or none
abbrev pub visit_reply_of : ℕ → Option ℕ → Reply
visit_reply_of b None = Empty b
visit_reply_of b (Some w) = Took w b

-- a router after a step
abbrev pub router_stepped : TableRows → RouterState → RouterState
router_stepped t s = record { router = moved_on t s.router; window = added s.window }

-- a router when a tick ends
abbrev pub router_turned : RouterState → RouterState
router_turned s = record { router = s.router; window = turned s.window }

-- an output when a tick ends
abbrev pub output_turned : OutputState → OutputState
output_turned s = record { sent = s.sent; last = s.last; window = turned s.window }

-- an output after a send in this tick, by which so many entries leave, one or none
abbrev pub output_sent : OutputState → ℕ → ℕ → OutputState
output_sent s now more = record { sent = s.sent + more; last = Some now; window = added s.window }
