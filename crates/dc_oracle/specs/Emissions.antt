-- What is carried along a run of the emissions of its labels.
use Rattle.std.specs.Prelude.{◌≡◌, ℕ, ◌+◌, ◌-◌, ◌<◌, ◌≤◌, ◌^◌, Option, Some, None, List, [], length, slice_index_or}
use Rattle.dc_tables.specs.TableRows.{TableRows, label_row}
use Rattle.dc_event.specs.Time.{tick_after}
use Rattle.dc_event.specs.Emissions.{emission_ticks, last_or_zero}
use Rattle.dc_event.specs.declared.event.Event.{Event}
use Rattle.dc_oracle.specs.declared.emissions.EmissionWatch.{EmissionWatch}

-- the tick of an emission, 0 where there is none
abbrev pub tick_of : Option ℕ → ℕ
tick_of None = 0
tick_of (Some k) = k

-- it is the last of these ticks, or there are none
abbrev pub IsLast : List ℕ → Option ℕ → Type 0
IsLast ts None = length ts ≡ 0
IsLast ts (Some k) = (1 ≤ length ts) × (last_or_zero ts ≡ k)

-- a part for each label of the tables
abbrev pub IsSized : TableRows → EmissionWatch → Type 0
IsSized t w = length w.last.items ≡ length t.labels

-- the tick is the least up to which some of the first n labels is not overdue, or none ends before 2^64 - 1
pub record IsLimit (t : TableRows) (last : List (Option ℕ)) (n limit : ℕ) : Type 0 where
  pub lower : (x : ℕ) → x < n → limit ≤ tick_of (slice_index_or last x None) + (label_row t x).maximum
  pub met : limit < 2 ^ 64 - 1 → (x : ℕ) × (x < n) × (tick_of (slice_index_or last x None) + (label_row t x).maximum ≤ limit)

-- the last ticks are those of the run, and the limit is not after that of any label
pub record Emits (t : TableRows) (w : EmissionWatch) (run : List Event) : Type 0 where
  pub last : (x : ℕ) → x < length t.labels → IsLast (emission_ticks t x run) (slice_index_or w.last.items x None)
  pub by_now : (x : ℕ) → x < length t.labels → tick_of (slice_index_or w.last.items x None) ≤ tick_after run
  pub limit : (x : ℕ) → x < length t.labels → w.limit ≤ tick_of (slice_index_or w.last.items x None) + (label_row t x).maximum
