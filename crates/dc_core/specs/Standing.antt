-- The concentrator stands for a run; which events may follow it, and what each fault says.
use Rattle.std.specs.Prelude.{true, Bool, cond, max, ◌+◌, ◌&&◌, nat_lt, slice_set, ◌≡◌, ℕ, ◌%◌, ◌^◌, ◌<◌, ◌≤◌, map, Option, None, is_some, option_map, List, [], ◌∷◌, ◌++◌, length, drop, slice_index_or}
use Rattle.dc_bound.specs.Window.{HoldAtMost, ticks_of}
use Rattle.dc_bound.specs.Early.{pace_of}
use Rattle.dc_bound.specs.Moves.{Move, latch, entered, taken}
use Rattle.dc_tables.specs.TableRows.{TableRows, stream_row, router_row, output_row, is_policed}
use Rattle.dc_event.specs.Time.{tick_after, routes, route_ticks, send_ticks}
use Rattle.dc_event.specs.Buses.{arrivals, moves, room}
use Rattle.dc_event.specs.Latest.{latest}
use Rattle.dc_event.specs.Outputs.{sent}
use Rattle.dc_event.specs.Admissible.{IsNumbered, IsRun, KeepsBudgets}
use Rattle.dc_event.specs.Works.{IsFirstLacking}
use Rattle.dc_event.specs.declared.event.Event.{Event}
use Rattle.dc_event.specs.declared.event.Event.TheVariants.{Tick, Route, Send}
use Rattle.dc_core.specs.declared.fault.StepFault.{StepFault}
use Rattle.dc_core.specs.declared.fault.StepFault.TheVariants.{Spent, TooSoon, Owed, TickLimit, Unknown}
use Rattle.dc_core.specs.declared.states.RouterState.{RouterState}
use Rattle.dc_core.specs.declared.states.OutputState.{OutputState}
use Rattle.dc_transmit.specs.declared.limits.TheConstants.{LAST_TICK}
use Rattle.dc_bound.specs.Window.{IsLast}
use Rattle.dc_core.specs.Windows.{HoldsSteps}
use Rattle.dc_core.specs.States.{BusData, no_router, no_output}

-- the words of the items that entered a queue
abbrev pub entered_words : ℕ → List Move → List ℕ
entered_words room ms = map (λ x. x.1) (entered room ms)

-- the queue holds the entered words that are not taken, in order, and the flag says whether it has latched
pub record HoldsQueue (room : ℕ) (state : BusData) (ms : List Move) : Type 0 where
  pub limit : state.queue.limit ≡ room
  pub flag : state.latched ≡ is_some (latch room ms)
  pub words : state.queue.words ≡ drop (taken room ms) (entered_words room ms)

-- a latest word and its routed tick, without its stream
abbrev pub word_and_tick : (ℕ × ℕ) × ℕ → ℕ × ℕ
word_and_tick l = (l.0.1, l.1)

-- the router is at the place of its list that its steps lead to, and its window holds them
pub record HoldsRouter (t : TableRows) (r : ℕ) (state : RouterState) (run : List Event) : Type 0 where
  pub cursor : state.router.cursor ≡ routes r run % length (router_row t r).visits
  pub window : HoldsSteps (router_row t r).within (router_row t r).most (tick_after run) (route_ticks r run) state.window

-- the output has counted what was sent, its last send is kept, and its window holds its sends. A tick has room for one, as the gap is at least 1
pub record HoldsOutput (t : TableRows) (o : ℕ) (state : OutputState) (run : List Event) : Type 0 where
  pub count : state.sent ≡ sent t o run
  pub last : IsLast state.last (tick_after run) (send_ticks o run)
  pub window : HoldsSteps (output_row t o).within 1 (tick_after run) (send_ticks o run) state.window

-- the tick, the buses, the latest words, the routers and the outputs are those of a run of these tables that keeps the budgets
pub record Standing (t : TableRows) (now : ℕ) (buses : ℕ → BusData) (lasts : List (Option (ℕ × ℕ))) (routers : List RouterState) (outputs : List OutputState) (run : List Event) : Type 0 where
  pub numbers : IsRun t run
  pub kept : KeepsBudgets t run
  pub clock : now ≡ tick_after run
  pub queues : (b : ℕ) → b < length t.buses → HoldsQueue (room t b) (buses b) (moves t b run)
  pub words : (s : ℕ) → s < length t.streams → slice_index_or lasts s None ≡ option_map word_and_tick (latest t s run)
  pub turns : (r : ℕ) → r < length t.routers → HoldsRouter t r (slice_index_or routers r no_router) run
  pub sendings : (o : ℕ) → o < length t.outputs → HoldsOutput t o (slice_index_or outputs o no_output) run

-- the number of each stream of a policed bus is the pace of its arrivals
abbrev pub HoldsPaces : TableRows → List ℕ → List Event → Type 0
HoldsPaces t paces run =
    (s : ℕ) → s < length t.streams → is_policed t (stream_row t s).bus ≡ true → slice_index_or paces s 0 ≡ pace_of (stream_row t s).minimum (ticks_of (arrivals t s run))

-- whether a policed bus refuses a word of the stream in this tick, by its number
abbrev pub refuses_early_now : TableRows → List ℕ → ℕ → ℕ → ℕ → Bool
refuses_early_now t paces now b s = is_policed t b && nat_lt (now + (stream_row t s).jitter) (slice_index_or paces s 0)

-- the numbers after a word of the stream that was let in
abbrev pub paces_after : TableRows → List ℕ → ℕ → ℕ → ℕ → List ℕ
paces_after t paces now b s = cond (is_policed t b) (slice_set paces s (max now (slice_index_or paces s 0) + (stream_row t s).minimum)) paces

-- the event's number is in the tables, the tick stays within its limit, and the run with the event keeps the budgets
pub record MayFollow (t : TableRows) (run : List Event) (e : Event) : Type 0 where
  pub numbered : IsNumbered t e
  pub early : tick_after (run ++ e ∷ []) ≤ LAST_TICK
  pub keeps : KeepsBudgets t (run ++ e ∷ [])

-- what each fault says of the run and the event
abbrev pub IsFault : TableRows → List Event → Event → StepFault → Type 0
IsFault t run e Unknown = ¬ IsNumbered t e
IsFault t run e TickLimit = (e ≡ Tick) × (LAST_TICK < tick_after (run ++ e ∷ []))
IsFault t run e (Owed a) = (e ≡ Tick) × (tick_after (run ++ e ∷ []) ≤ LAST_TICK) × IsFirstLacking t run a
IsFault t run e Spent = (r : ℕ) × (e ≡ Route r) × (r < length t.routers) × (¬ HoldAtMost (router_row t r).most 1 (route_ticks r (run ++ e ∷ [])))
IsFault t run e TooSoon = (o : ℕ) × (e ≡ Send o) × (o < length t.outputs) × (¬ HoldAtMost 1 (output_row t o).gap (send_ticks o (run ++ e ∷ [])))
