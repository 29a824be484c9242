-- The states of a queue, a router and an output before any event.
use Rattle.std.specs.Prelude.{◌≡◌, ℕ, ◌<◌, None, List, [], length, slice_index_or}
use Rattle.dc_queue.specs.QueueData.{QueueData}
use Rattle.dc_queue.specs.WindowData.{empty_window}
use Rattle.dc_tables.specs.TableRows.{TableRows, bus_row, router_row, output_row}
use Rattle.dc_core.specs.declared.states.RouterState.{RouterState}
use Rattle.dc_core.specs.declared.states.OutputState.{OutputState}

-- a bus's queue before any event: empty, with the capacity that the tables give it
abbrev pub fresh_queue : TableRows → ℕ → QueueData
fresh_queue t b = record { words = []; limit = (bus_row t b).queue }

-- a router before its first step: at the first bus of its list, with a window of its own `within` ticks
abbrev pub fresh_router : TableRows → ℕ → RouterState
fresh_router t r = record { router = record { number = r; cursor = 0 }; window = empty_window (router_row t r).within (router_row t r).most }

-- an output before its first send step: no entry has left
abbrev pub fresh_output : TableRows → ℕ → OutputState
fresh_output t o = record { sent = 0; last = None; window = empty_window (output_row t o).within 1 }

-- there are n items, and each is f of its number
abbrev pub AllMade : {X : Type 0} → (ℕ → X) → X → ℕ → List X → Type 0
AllMade f none n xs = (length xs ≡ n) × ((k : ℕ) → k < n → slice_index_or xs k none ≡ f k)
