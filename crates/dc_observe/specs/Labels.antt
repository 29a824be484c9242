-- What is carried along a run of its labels.
use Rattle.std.specs.Prelude.{◌≡◌, ℕ, ◌-◌, ◌<◌, ◌≤◌, max, Option, Some, None, List, length, slice_index_or}
use Rattle.dc_tables.specs.TableRows.{TableRows}
use Rattle.dc_event.specs.Emissions.{emission_ticks}
use Rattle.dc_event.specs.declared.event.Event.{Event}
use Rattle.dc_observe.specs.Carried.{last_of, or_zero, elder, least_with, one_more, greatest_so_far}
use Rattle.dc_observe.specs.Observed.{sent_count, fallback_count, oldest_copy, least_interval, greatest_interval}
use Rattle.dc_observe.specs.declared.labels.LabelGauge.{LabelGauge}
use Rattle.dc_observe.specs.declared.labels.LabelGauges.{LabelGauges}
use Rattle.dc_observe.specs.declared.labels.LabelNumbers.{LabelNumbers}

-- a label that was not sent
abbrev pub no_emissions : LabelGauge
no_emissions = record { sent = 0; fallback = 0; age = None; last = None; least = None; greatest = 0 }

-- the count of fallbacks, with a word of this age more
abbrev pub fallback_with : ℕ → Option ℕ → ℕ
fallback_with count None = one_more count
fallback_with count (Some age) = count

-- its gauge with an emission in this tick, of a word of this age
abbrev pub gauged : (age : Option ℕ) → (tick : ℕ) → LabelGauge → LabelGauge
gauged age tick g = record {
  sent = one_more g.sent;
  fallback = fallback_with g.fallback age;
  age = elder g.age age;
  last = Some tick;
  least = least_with g.least g.last tick;
  greatest = max g.greatest (tick - or_zero g.last);
}

-- the gauge is that of the label in the run, which sent it no more often than there are events
pub record IsLabelGauge (t : TableRows) (x : ℕ) (run : List Event) (g : LabelGauge) : Type 0 where
  pub sent : g.sent ≡ sent_count t x run
  pub fallback : g.fallback ≡ fallback_count t x run
  pub age : g.age ≡ oldest_copy t x run
  pub last : g.last ≡ last_of (emission_ticks t x run)
  pub least : g.least ≡ least_interval t x run
  pub greatest : g.greatest ≡ greatest_so_far t x run
  pub few : sent_count t x run ≤ length run

-- a part for each label
abbrev pub IsSized : TableRows → LabelGauges → Type 0
IsSized t w = length w.gauges.items ≡ length t.labels

-- each is that of the run
abbrev pub AreGauged : TableRows → LabelGauges → List Event → Type 0
AreGauged t w run = (x : ℕ) → x < length t.labels → IsLabelGauge t x run (slice_index_or w.gauges.items x no_emissions)

-- what is observed of a label
abbrev pub label_numbers : TableRows → ℕ → List Event → LabelNumbers
label_numbers t x run = record {
  sent = sent_count t x run;
  fallback = fallback_count t x run;
  age = oldest_copy t x run;
  least = least_interval t x run;
  greatest = greatest_interval t x run;
}
