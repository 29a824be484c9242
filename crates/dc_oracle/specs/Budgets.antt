-- What is carried along a run of what its actors did: the ticks of their last steps.
use Rattle.std.specs.Prelude.{◌≡◌, ℕ, ◌<◌, Bool, true, false, max, List, [], ◌∷◌, ◌++◌, length, slice_index_or}
use Rattle.circular_buffer.specs.Buffer.{keep_last}
use Rattle.dc_tables.specs.TableRows.{TableRows, router_row, output_row}
use Rattle.dc_event.specs.Time.{tick_after, route_ticks, send_ticks}
use Rattle.dc_event.specs.Admissible.{KeepsBudgets}
use Rattle.dc_event.specs.declared.event.Event.{Event}
use Rattle.dc_oracle.specs.declared.budgets.BudgetWatch.{BudgetWatch}
use Rattle.dc_oracle.specs.RecentData.{RecentData}
use Rattle.dc_oracle.specs.History.{lacking}

-- no steps, of an actor that is not there
abbrev pub no_steps : RecentData
no_steps = record { ticks = []; room = 0 }

-- how many of an actor's last steps are wanted
abbrev pub router_room : TableRows → ℕ → ℕ
router_room t r = max (router_row t r).steps (router_row t r).most

abbrev pub output_room : TableRows → ℕ → ℕ
output_room t o = (output_row t o).steps

-- the last steps of these
abbrev pub last_steps : ℕ → List ℕ → RecentData
last_steps room ts = record { ticks = keep_last room ts; room = room }

-- a part for each router and each output of the tables
pub record IsSized (t : TableRows) (w : BudgetWatch) : Type 0 where
  pub routers : length w.routers.items ≡ length t.routers
  pub outputs : length w.outputs.items ≡ length t.outputs

-- the run keeps the budgets, and these are the ticks of the actors' last steps in it
pub record Watches (t : TableRows) (w : BudgetWatch) (run : List Event) : Type 0 where
  pub kept : KeepsBudgets t run
  pub clock : w.tick ≡ tick_after run
  pub routes : (r : ℕ) → r < length t.routers → slice_index_or w.routers.items r no_steps ≡ last_steps (router_room t r) (route_ticks r run)
  pub sends : (o : ℕ) → o < length t.outputs → slice_index_or w.outputs.items o no_steps ≡ last_steps (output_room t o) (send_ticks o run)

-- the run with one event more keeps them too, or not
abbrev pub Seen : TableRows → BudgetWatch → List Event → Event → Bool → Type 0
Seen t w run e true = Watches t w (run ++ e ∷ [])
Seen t w run e false = ¬ KeepsBudgets t (run ++ e ∷ [])

-- whether the router lacks steps at the end of the tick
abbrev pub router_lacks : TableRows → BudgetWatch → ℕ → Bool
router_lacks t w r = lacking (router_row t r).steps (router_row t r).within w.tick (slice_index_or w.routers.items r no_steps).ticks

-- whether the output lacks sends
abbrev pub output_lacks : TableRows → BudgetWatch → ℕ → Bool
output_lacks t w o = lacking (output_row t o).steps (output_row t o).within w.tick (slice_index_or w.outputs.items o no_steps).ticks

-- whether some router does
abbrev pub RoutersLack : TableRows → BudgetWatch → Bool → Type 0
RoutersLack t w true = (r : ℕ) × (r < length t.routers) × (router_lacks t w r ≡ true)
RoutersLack t w false = (r : ℕ) → r < length t.routers → router_lacks t w r ≡ false

-- whether some output does
abbrev pub OutputsLack : TableRows → BudgetWatch → Bool → Type 0
OutputsLack t w true = (o : ℕ) × (o < length t.outputs) × (output_lacks t w o ≡ true)
OutputsLack t w false = (o : ℕ) → o < length t.outputs → output_lacks t w o ≡ false
