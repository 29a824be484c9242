-- What is carried along a run of the backlogs of its buses.
use Rattle.std.specs.Prelude.{◌≡◌, ℕ, ◌<◌, Option, Some, None, List, length, slice_index_or}
use Rattle.dc_tables.specs.TableRows.{TableRows}
use Rattle.dc_event.specs.declared.event.Event.{Event}
use Rattle.dc_event.specs.declared.event.Event.TheVariants.{Tick, Arrive, Route, Send}
use Rattle.dc_observe.specs.Observed.{greatest_backlog}
use Rattle.dc_observe.specs.declared.backlogs.BacklogGauge.{BacklogGauge}

-- the bus that the event brings a word to
abbrev pub word_bus : Event → Option ℕ
word_bus Tick = None
word_bus (Arrive w b) = Some b
word_bus (Route r) = None
word_bus (Send o) = None

-- a part for each bus
abbrev pub IsSized : TableRows → BacklogGauge → Type 0
IsSized t g = length g.greatest.items ≡ length t.buses

-- each is the greatest backlog of the run
abbrev pub Observes : TableRows → BacklogGauge → List Event → Type 0
Observes t g run = (b : ℕ) → b < length t.buses → slice_index_or g.greatest.items b 0 ≡ greatest_backlog t b run
