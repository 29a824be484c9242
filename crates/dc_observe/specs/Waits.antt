-- What is carried along a run of the waits of its words.
use Rattle.std.specs.Prelude.{◌≡◌, ℕ, ◌<◌, List, length, slice_index_or}
use Rattle.dc_tables.specs.TableRows.{TableRows}
use Rattle.dc_event.specs.declared.event.Event.{Event}
use Rattle.dc_observe.specs.Carried.{longest_taken}
use Rattle.dc_observe.specs.declared.waits.WaitGauge.{WaitGauge}

-- a part for each bus
abbrev pub IsSized : TableRows → WaitGauge → Type 0
IsSized t g = length g.longest.items ≡ length t.buses

-- each is the longest wait of the words that were taken
abbrev pub Waits : TableRows → WaitGauge → List Event → Type 0
Waits t g run = (b : ℕ) → b < length t.buses → slice_index_or g.longest.items b 0 ≡ longest_taken t b run
