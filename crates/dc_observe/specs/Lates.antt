-- What is carried along a run of how late its entries left.
use Rattle.std.specs.Prelude.{◌≡◌, ℕ, ◌<◌, List, length, slice_index_or}
use Rattle.dc_tables.specs.TableRows.{TableRows}
use Rattle.dc_event.specs.declared.event.Event.{Event}
use Rattle.dc_observe.specs.Carried.{latest_sent}
use Rattle.dc_observe.specs.declared.lates.LateGauge.{LateGauge}

-- a part for each output
abbrev pub IsSized : TableRows → LateGauge → Type 0
IsSized t g = length g.latest.items ≡ length t.outputs

-- each is how late the latest of the entries was that left
abbrev pub AreLate : TableRows → LateGauge → List Event → Type 0
AreLate t g run = (o : ℕ) → o < length t.outputs → slice_index_or g.latest.items o 0 ≡ latest_sent t o run
