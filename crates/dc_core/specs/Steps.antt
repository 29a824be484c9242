-- What a step of the whole state says.
use Rattle.std.specs.Prelude.{◌≡◌, ℕ, ◌^◌, ◌<◌, ◌≤◌, List, [], ◌∷◌, ◌++◌, length, slice_index_or, Ok, Err}
use Rattle.std.specs.declared.result.Result.{Result}
use Rattle.dc_tables.specs.TableRows.{TableRows}
use Rattle.dc_event.specs.Replies.{reply}
use Rattle.dc_event.specs.declared.event.Event.{Event}
use Rattle.dc_event.specs.declared.event.Reply.{Reply}
use Rattle.dc_core.specs.declared.fault.StepFault.{StepFault}
use Rattle.dc_core.specs.declared.machine.State.{State}
use Rattle.dc_transmit.specs.declared.limits.TheConstants.{LAST_TICK}
use Rattle.dc_core.specs.declared.states.RouterState.{RouterState}
use Rattle.dc_core.specs.States.{bus_at, no_router}
use Rattle.dc_core.specs.Standing.{Standing, HoldsPaces, MayFollow, IsFault}

-- each router's state names its number
abbrev pub AreNumbered : TableRows → List RouterState → Type 0
AreNumbered t routers = (r : ℕ) → r < length t.routers → (slice_index_or routers r no_router).router.number ≡ r

-- the state has one member for each bus, stream, router and output of the tables
pub record IsSized (t : TableRows) (s : State) : Type 0 where
  pub queues : length s.queues.items ≡ length t.buses
  pub latches : length s.latched.items ≡ length t.buses
  pub streams : length s.latest ≡ length t.streams
  pub paces : length s.paces.items ≡ length t.streams
  pub routers : length s.routers.items ≡ length t.routers
  pub numbers : AreNumbered t s.routers.items
  pub outputs : length s.outputs.items ≡ length t.outputs
  pub early : s.tick ≤ LAST_TICK

-- the state stands for a run
abbrev pub StandsFor : TableRows → State → List Event → Type 0
StandsFor t s run = Standing t s.tick (bus_at s.queues.items s.latched.items) s.latest s.routers.items s.outputs.items run × HoldsPaces t s.paces.items run

-- Ok exactly where the event may follow; then the state stands for the run with it, and the reply is the one that the run calls for. Else the fault is the run's
abbrev pub StepsTo : TableRows → State → List Event → Event → Result Reply StepFault → Type 0
StepsTo t new run e (Ok r) = MayFollow t run e × StandsFor t new (run ++ e ∷ []) × (r ≡ reply t run e)
StepsTo t new run e (Err f) = (¬ MayFollow t run e) × IsFault t run e f
