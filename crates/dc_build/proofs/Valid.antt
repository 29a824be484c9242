-- Tables that break no rule are valid.
use Rattle.std.proofs.Common.{◌≡◌, ℕ, ◌<◌, Option, Some, None, List, [], length, refl, sym, ap, ◌∙◌, arith, subst}
use Rattle.std.specs.Prelude.{option_map, IfOk, Result, Ok, Err}
use Rattle.std.specs.List.{All, slice_get}
use Rattle.std.proofs.lemmas.List.{length-map}
use Rattle.dc_word.specs.declared.format.Format.TheVariants.{Bnr}
use Rattle.dc_document.specs.Document.{Document, IsInOrder}
use Rattle.dc_rules.specs.Rules.{bus_names, stream_names, router_names, output_names, label_names}
use Rattle.dc_build.specs.RowsOf.{AreRows, names_of}
use Rattle.dc_tables.specs.TableRows.{TableRows, AreValid}
use Rattle.dc_tables.specs.TableNames.{TableNames}
use Rattle.dc_tables.specs.Named.{HaveNames, AreOnce, AreSound}
use Rattle.dc_tables.specs.Bounds.{table_names, table_rows}
use Rattle.dc_tables.specs.declared.made.Rows.{Rows}
use Rattle.dc_rules.specs.Passed.{ArePassed}
use Rattle.dc_rules.specs.declared.passed.Passed.{Passed}
use Rattle.dc_tables.specs.declared.rows.OutputLabel.{OutputLabel}
use Rattle.dc_rules.specs.lemmas.Picks.{no_item, not_below}
use Rattle.dc_rules.specs.Obeys.{ShapeObeys, TotalsObey, QuantitiesObey, NamesObey, ReferencesObey, SchedulesObey, Obeys}
use Rattle.dc_build.proofs.ValidBuses as buses
use Rattle.dc_build.proofs.ValidRouters as routers
use Rattle.dc_build.proofs.ValidLabels as labels
use Rattle.dc_build.proofs.ValidOutputs as outputs
use Rattle.dc_build.proofs.ValidApart as apart
use Rattle.dc_build.proofs.ValidVisits as visits
use Rattle.dc_build.proofs.ValidFormats as formats

unmapped : {A : Type 0} (f : A → ℕ) (r : Option A) → option_map f r ≡ None → r ≡ None
unmapped f None h = refl
unmapped f (Some x) h = absurd (cc h)

-- the labels' numbers and SDIs are in their ranges
abbrev pub LabelsFit : TableRows → Type 0
LabelsFit t = All (λ (r : OutputLabel). (r.label < 256) × (r.sdi < 4)) t.labels

valid : (d : Document) (t : TableRows) → IsInOrder d → AreRows d t → LabelsFit t → ShapeObeys d → TotalsObey d → QuantitiesObey d → NamesObey d → ReferencesObey d → SchedulesObey d → AreValid t
valid d t order rows fit shape totals quantities names refs schedules = record {
  ticks_short = omega (arith, rows.tick, (buses.tick_in d t rows shape).1);
  ticks_some = omega (arith, rows.tick, (buses.tick_in d t rows shape).0);
  few_buses = omega (arith, buses.bus_count d t rows, not_below 64 (length d.buses) shape.top.buses);
  few_routers = omega (arith, routers.router_count d t rows, not_below 64 (length d.routers) shape.top.routers);
  few_outputs = omega (arith, rows.outputs_there, not_below 32 (length d.outputs) shape.top.outputs);
  few_streams = omega (arith, buses.stream_count d t rows, no_item d.streams 1024 (unmapped (λ s. s.bus) (slice_get d.streams 1024) totals.streams));
  few_labels = omega (arith, labels.label_count d t rows, no_item d.labels 1024 (unmapped (λ x. x.output) (slice_get d.labels 1024) totals.labels));
  queues_some = buses.queues_some d t rows shape;
  queues_small = buses.queues_small d t rows shape;
  spacings = buses.spacings d t rows shape;
  bus_streams_some = buses.bus_streams_some d t rows shape;
  few_bus_streams = buses.few_bus_streams d t rows shape;
  streams_there = buses.streams_there d t rows order;
  streams_of_bus = buses.streams_of_bus d t rows order;
  bus_of_streams = buses.bus_of_streams d t rows order;
  routers_of_buses = routers.routers_of_buses d t rows shape refs;
  visited_by_one = routers.visited_by_one d t rows shape refs;
  buses_visited = visits.buses_visited d t rows shape names refs;
  streams_on_buses = buses.streams_on_buses d t rows order;
  minimums = buses.minimums d t rows shape quantities refs;
  maximums = buses.maximums d t rows shape quantities refs;
  maximums_small = buses.maximums_small d t rows shape;
  jitters_small = buses.jitters_small d t rows shape;
  streams_apart = apart.streams_apart d t rows refs;
  visits_there = routers.visits_there d t rows shape;
  few_visits = routers.few_visits d t rows shape;
  visits_on_buses = routers.visits_on_buses d t rows shape refs;
  routers_step = routers.routers_step d t rows shape;
  routers_paced = routers.routers_paced d t rows shape;
  routers_small = routers.routers_small d t rows shape;
  routers_steps_small = routers.routers_steps_small d t rows shape;
  routers_able = routers.routers_able d t rows shape schedules;
  outputs_step = outputs.outputs_step d t rows shape;
  outputs_steps_small = outputs.outputs_steps_small d t rows shape;
  outputs_paced = outputs.outputs_paced d t rows shape;
  outputs_small = outputs.outputs_small d t rows shape;
  gaps_some = outputs.gaps_some d t rows shape;
  outputs_able = outputs.outputs_able d t rows schedules;
  frames = outputs.frames d t rows shape;
  frames_short = outputs.frames_short d t rows shape;
  entries_some = outputs.entries_some d t rows order shape;
  few_entries = outputs.few_entries d t rows totals;
  entries_ascend = outputs.entries_ascend d t rows schedules;
  entries_in_frame = outputs.entries_in_frame d t rows schedules;
  entries_labelled = outputs.entries_labelled d t rows;
  labels_apart = apart.labels_apart d t rows schedules;
  few_output_labels = labels.few_output_labels d t rows shape;
  labels_on_outputs = labels.labels_on_outputs d t rows order;
  labels_in_frames = outputs.labels_in_frames d t rows order shape;
  labels_fit = λ x h. fit x (record { output = 0; label = 0; sdi = 0; format = Bnr; sources = []; stale = 0; age_limit = 0; minimum = 0; maximum = 0 }) h;
  sources_some = labels.sources_some d t rows shape;
  few_sources = labels.few_sources d t rows shape;
  sources_once = apart.sources_once d t rows refs;
  sources_there = labels.sources_there d t rows shape quantities refs;
  sources_alike = formats.sources_alike d t rows refs schedules;
  stales = labels.stales d t rows shape;
  limits = labels.limits d t rows shape;
  intervals = labels.intervals d t rows shape quantities refs;
  intervals_small = labels.intervals_small d t rows shape;
}

pub valid_rows : (d : Document) (t : TableRows) → IsInOrder d → AreRows d t → LabelsFit t → Obeys d → AreValid t
valid_rows d t order rows fit all = valid d t order rows fit all.shape all.totals all.quantities all.names all.references all.schedules

-- names that stand once in the document do so in the tables
once : (d : Document) (t : TableRows) → AreRows d t → (f : TableNames → List (List ℕ)) → AreOnce (f (names_of d)) → AreOnce (f t.names)
once d t rows f h = let P : TableNames → Type 0 = λ k. AreOnce (f k) in subst P (sym rows.names) h

-- each row has a name
pub named_rows : (d : Document) (t : TableRows) → AreRows d t → NamesObey d → HaveNames t
named_rows d t rows all = record {
  buses = ap (λ (k : TableNames). length k.buses) rows.names ∙ length-map d.buses (λ b. b.name) ∙ sym (buses.bus_count d t rows);
  streams = ap (λ (k : TableNames). length k.streams) rows.names ∙ length-map d.streams (λ s. s.name) ∙ sym (buses.stream_count d t rows);
  routers = ap (λ (k : TableNames). length k.routers) rows.names ∙ length-map d.routers (λ r. r.name) ∙ sym (routers.router_count d t rows);
  outputs = ap (λ (k : TableNames). length k.outputs) rows.names ∙ length-map d.outputs (λ o. o.name) ∙ sym rows.outputs_there;
  labels = ap (λ (k : TableNames). length k.labels) rows.names ∙ length-map d.labels (λ x. x.name) ∙ sym (labels.label_count d t rows);
  buses_once = once d t rows (λ k. k.buses) (apart.names_once (bus_names d) all.buses);
  streams_once = once d t rows (λ k. k.streams) (apart.names_once (stream_names d) all.streams);
  routers_once = once d t rows (λ k. k.routers) (apart.names_once (router_names d) all.routers);
  outputs_once = once d t rows (λ k. k.outputs) (apart.names_once (output_names d) all.outputs);
  labels_once = once d t rows (λ k. k.labels) (apart.names_once (label_names d) all.labels);
}

-- so they are sound
pub sound_rows : (d : Document) (t : TableRows) → IsInOrder d → AreRows d t → LabelsFit t → Obeys d → AreSound t
sound_rows d t order rows fit all = record {
  valid = valid_rows d t order rows fit all;
  named = named_rows d t rows all.names;
}

-- names that are the document's make its names
pub names_passed : (d : Document) (p : Passed) → ArePassed d p → table_names p.names ≡ names_of d
names_passed d p h = λ i. record { buses = h.buses i; streams = h.streams i; routers = h.routers i; outputs = h.outputs i; labels = h.labels i }

-- rows that are the document's beside names that are
pub rows_named : (d : Document) (tick : ℕ) (names : TableNames) (rows : Rows) → tick ≡ d.tick_us → names ≡ names_of d → AreRows d (table_rows d.tick_us (names_of d) rows) → AreRows d (table_rows tick names rows)
rows_named d tick names rows t n made = record {
  tick = t;
  buses = made.buses;
  streams = made.streams;
  routers = made.routers;
  outputs_there = made.outputs_there;
  outputs = made.outputs;
  labels = made.labels;
  names = n;
}

-- an answer that is such rows
pub rows_answered : {E : Type 0} (d : Document) (t : TableRows) (answer : Result TableRows E) → IfOk answer (λ u. u ≡ t) → AreRows d t → IfOk answer (λ u. AreRows d u)
rows_answered d t (Ok u) h rows = let P : TableRows → Type 0 = λ v. AreRows d v in subst P (sym h) rows
rows_answered d t (Err e) h rows = tt
