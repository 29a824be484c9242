-- Which actors lack steps for a Tick, by the windows that are kept, and which sends come too soon.
use Rattle.std.specs.Prelude.{◌≡◌, ℕ, ◌-◌, ◌<◌, Bool, true, false, nat_lt, Option, Some, None, List, length, slice_index_or}
use Rattle.dc_queue.specs.WindowData.{lacks}
use Rattle.dc_tables.specs.TableRows.{TableRows, router_row, output_row}
use Rattle.dc_event.specs.declared.event.Actor.{Actor}
use Rattle.dc_event.specs.declared.event.Actor.TheVariants.{Wire, Router, Output, Clock}
use Rattle.dc_core.specs.declared.states.RouterState.{RouterState}
use Rattle.dc_core.specs.declared.states.OutputState.{OutputState}
use Rattle.dc_core.specs.States.{no_router, no_output}

-- whether `within` ticks have begun and the last of them, the running one included, hold too few steps of the router
abbrev pub router_lacks : TableRows → List RouterState → ℕ → Bool
router_lacks t routers r = lacks (slice_index_or routers r no_router).window (router_row t r).steps

-- whether `within` ticks have begun and the last of them, the running one included, hold too few send steps of the output
abbrev pub output_lacks : TableRows → List OutputState → ℕ → Bool
output_lacks t outputs o = lacks (slice_index_or outputs o no_output).window (output_row t o).steps

-- the first n routers lack none
abbrev pub RoutersWork : TableRows → List RouterState → ℕ → Type 0
RoutersWork t routers n = (r : ℕ) → r < n → router_lacks t routers r ≡ false

-- the first n outputs lack none
abbrev pub OutputsWork : TableRows → List OutputState → ℕ → Type 0
OutputsWork t outputs n = (o : ℕ) → o < n → output_lacks t outputs o ≡ false

-- no actor lacks steps
pub record NoneLacks (t : TableRows) (routers : List RouterState) (outputs : List OutputState) : Type 0 where
  pub all_routers : RoutersWork t routers (length t.routers)
  pub all_outputs : OutputsWork t outputs (length t.outputs)

-- this is the first that does, routers before outputs
abbrev pub FirstLacks : TableRows → List RouterState → List OutputState → Actor → Type 0
FirstLacks t routers outputs (Router r) = (r < length t.routers) × (router_lacks t routers r ≡ true) × RoutersWork t routers r
FirstLacks t routers outputs (Output o) = (o < length t.outputs) × (output_lacks t outputs o ≡ true) × RoutersWork t routers (length t.routers) × OutputsWork t outputs o
FirstLacks t routers outputs (Wire b) = ⊥
FirstLacks t routers outputs Clock = ⊥

-- whether a send in the unfinished tick lies less than the gap after the last
abbrev pub too_soon : ℕ → ℕ → Option ℕ → Bool
too_soon gap now None = false
too_soon gap now (Some k) = nat_lt (now - k) gap
