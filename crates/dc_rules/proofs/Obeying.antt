-- What a verdict that all is well says of each rule.
use Rattle.std.proofs.Common.{◌≡◌, ℕ, Bool, true, false, cond, nat_lt, Option, Some, None, Ok, Err, List, length, map, refl}
use Rattle.std.specs.Prelude.{option_map, IfOk, Result}
use Rattle.std.specs.List.{slice_get, position}
use Rattle.dc_document.specs.Document.{Document, stream_owners, label_owners}
use Rattle.dc_rules.specs.Obeys.{TopObeys, ShapeObeys, TotalsObey, QuantitiesObey, NamesObey, ReferencesObey, SchedulesObey, Obeys}
use Rattle.dc_rules.specs.Rules.{Verdict, reported, then_reported, breach, earlier, at_owner, breach_reported, outside, at_top, counts, doubled, parameter_out, first_bus_out, first_count_out, first_stream_out, first_router_out, first_visits_out, first_output_out, first_label_out, first_sources_out, first_offsets_out, bus_shapes, stream_shapes, router_shapes, output_shapes, label_shapes, top_shape, shape, entries_from, entry_owners, first_overfull, totals, first_inverted, first_quick, first_narrow, later_quantities, quantities, doubled_name, router_names, output_names, label_names, names, first_unknown_stream, first_unknown_label, overlap, bus_names, stream_names, first_lost_router, first_lost_label, first_unserved, first_doubled_source, references, first_different, first_late, first_doubled_offset, first_doubled_label, first_unable_router, first_unable_output, schedules, first_rules, later_rules, verdict_of, Tells}
use Rattle.dc_document.specs.Keys.{same_parameter, parameter_key}
use Rattle.dc_document.specs.declared.fault.BuildError.{BuildError}
use Rattle.dc_document.specs.declared.fault.TableRule.{TableRule}
use Rattle.dc_document.specs.declared.fault.TableRule.TheVariants.{NumberOutOfRange, CountOutOfRange, ParameterDoubled, IntervalReversed, MinimumBelowOneTick, NoOutputInterval, NameDoubled, ParameterAbsent, StreamsOverlap, NameAbsent, BusNotVisitedByOne, SourceDoubled, FormatsDiffer, OffsetPastFrame, OffsetDoubled, LabelDoubled, RouterCannotKeepPace, OutputCannotKeepPace}
use Rattle.dc_document.specs.declared.fault.Section.{Section}
use Rattle.dc_document.specs.declared.fault.Section.TheVariants.{Top, Parameter, Bus, Stream, Router, Output, Label}
use Rattle.dc_rules.specs.declared.breach.Breach.{Breach}

pub both : (a b : Verdict) → then_reported a b ≡ Ok tt → (a ≡ Ok tt) × (b ≡ Ok tt)
both (Ok x) b h = (refl, h)
both (Err e) b h = absurd (cc h)

none : (rule : TableRule) (section : Section) (r : Option ℕ) → reported rule section r ≡ Ok tt → r ≡ None
none rule section None h = refl
none rule section (Some i) h = absurd (cc h)

no_breach : (rule : TableRule) (section : Section) (r : Option ℕ) → breach rule section r ≡ None → r ≡ None
no_breach rule section None h = refl
no_breach rule section (Some i) h = absurd (cc h)

neither_cond : (t : Bool) (a b : Breach) → cond t (Some b) (Some a) ≡ None → ⊥
neither_cond true a b h = cc h
neither_cond false a b h = cc h

neither : (a b : Option Breach) → earlier a b ≡ None → (a ≡ None) × (b ≡ None)
neither None b h = (refl, h)
neither (Some a) None h = absurd (cc h)
neither (Some a) (Some b) h = absurd (neither_cond (nat_lt b.place a.place) a b h)

unreported : (r : Option Breach) → breach_reported r ≡ Ok tt → r ≡ None
unreported None h = refl
unreported (Some b) h = absurd (cc h)

unplaced : (owners : List ℕ) (r : Option Breach) → at_owner owners r ≡ None → r ≡ None
unplaced owners None h = refl
unplaced owners (Some b) h = absurd (cc h)

not_top : (b : Bool) → at_top b ≡ None → b ≡ false
not_top true h = absurd (cc h)
not_top false h = refl

-- ---- shapes

abbrev top_4 : Document → Verdict
top_4 d = reported CountOutOfRange Top (at_top (nat_lt 32 (length d.outputs)))

abbrev top_3 : Document → Verdict
top_3 d = then_reported (reported CountOutOfRange Top (at_top (nat_lt 64 (length d.routers)))) (top_4 d)

abbrev top_2 : Document → Verdict
top_2 d = then_reported (reported CountOutOfRange Top (at_top (nat_lt 64 (length d.buses)))) (top_3 d)

abbrev top_1 : Document → Verdict
top_1 d = then_reported (reported CountOutOfRange Top (at_top (nat_lt 2048 (length d.parameters)))) (top_2 d)

pub top_obeys : (d : Document) → top_shape d ≡ Ok tt → TopObeys d
top_obeys d h =
    let a = both (reported NumberOutOfRange Top (at_top (outside 100 10000 d.tick_us))) (top_1 d) h in
    let b = both (reported CountOutOfRange Top (at_top (nat_lt 2048 (length d.parameters)))) (top_2 d) a.1 in
    let e = both (reported CountOutOfRange Top (at_top (nat_lt 64 (length d.buses)))) (top_3 d) b.1 in
    let f = both (reported CountOutOfRange Top (at_top (nat_lt 64 (length d.routers)))) (top_4 d) e.1 in
    record {
      tick = not_top (outside 100 10000 d.tick_us) (none NumberOutOfRange Top (at_top (outside 100 10000 d.tick_us)) a.0);
      parameters = not_top (nat_lt 2048 (length d.parameters)) (none CountOutOfRange Top (at_top (nat_lt 2048 (length d.parameters))) b.0);
      buses = not_top (nat_lt 64 (length d.buses)) (none CountOutOfRange Top (at_top (nat_lt 64 (length d.buses))) e.0);
      routers = not_top (nat_lt 64 (length d.routers)) (none CountOutOfRange Top (at_top (nat_lt 64 (length d.routers))) f.0);
      outputs = not_top (nat_lt 32 (length d.outputs)) (none CountOutOfRange Top (at_top (nat_lt 32 (length d.outputs))) f.1);
    }

abbrev shape_buses : Document → Option Breach
shape_buses d = earlier (bus_shapes d.buses (counts (stream_owners d) (length d.buses))) (at_owner (stream_owners d) (stream_shapes d.streams))

abbrev shape_last : Document → Option Breach
shape_last d = earlier (output_shapes d.outputs (counts (label_owners d) (length d.outputs))) (at_owner (label_owners d) (label_shapes d.labels))

abbrev shape_3 : Document → Verdict
shape_3 d = then_reported (breach_reported (router_shapes d.routers)) (breach_reported (shape_last d))

abbrev shape_2 : Document → Verdict
shape_2 d = then_reported (breach_reported (shape_buses d)) (shape_3 d)

abbrev shape_1 : Document → Verdict
shape_1 d = then_reported (reported NumberOutOfRange Parameter (position parameter_out d.parameters)) (shape_2 d)

pub shape_obeys : (d : Document) → shape d ≡ Ok tt → ShapeObeys d
shape_obeys d h =
    let a = both (top_shape d) (shape_1 d) h in
    let b = both (reported NumberOutOfRange Parameter (position parameter_out d.parameters)) (shape_2 d) a.1 in
    let e = both (breach_reported (shape_buses d)) (shape_3 d) b.1 in
    let first = neither (bus_shapes d.buses (counts (stream_owners d) (length d.buses))) (at_owner (stream_owners d) (stream_shapes d.streams)) (unreported (shape_buses d) e.0) in
    let f = both (breach_reported (router_shapes d.routers)) (breach_reported (shape_last d)) e.1 in
    let bus = neither (breach NumberOutOfRange Bus (first_bus_out d.buses)) (breach CountOutOfRange Bus (first_count_out (counts (stream_owners d) (length d.buses)))) first.0 in
    let router = neither (breach NumberOutOfRange Router (first_router_out d.routers)) (breach CountOutOfRange Router (first_visits_out d.routers)) (unreported (router_shapes d.routers) f.0) in
    let last = neither (output_shapes d.outputs (counts (label_owners d) (length d.outputs))) (at_owner (label_owners d) (label_shapes d.labels)) (unreported (shape_last d) f.1) in
    let output = neither (breach NumberOutOfRange Output (first_output_out d.outputs)) (breach CountOutOfRange Output (first_count_out (counts (label_owners d) (length d.outputs)))) last.0 in
    let label = neither (earlier (breach CountOutOfRange Label (first_sources_out d.labels)) (breach NumberOutOfRange Label (first_label_out d.labels))) (breach CountOutOfRange Label (first_offsets_out d.labels)) (unplaced (label_owners d) (label_shapes d.labels) last.1) in
    let numbers = neither (breach CountOutOfRange Label (first_sources_out d.labels)) (breach NumberOutOfRange Label (first_label_out d.labels)) label.0 in
    record {
      top = top_obeys d a.0;
      parameters = none NumberOutOfRange Parameter (position parameter_out d.parameters) b.0;
      buses = no_breach NumberOutOfRange Bus (first_bus_out d.buses) bus.0;
      streams_of = no_breach CountOutOfRange Bus (first_count_out (counts (stream_owners d) (length d.buses))) bus.1;
      streams = no_breach NumberOutOfRange Stream (first_stream_out d.streams) (unplaced (stream_owners d) (stream_shapes d.streams) first.1);
      routers = no_breach NumberOutOfRange Router (first_router_out d.routers) router.0;
      visits = no_breach CountOutOfRange Router (first_visits_out d.routers) router.1;
      outputs = no_breach NumberOutOfRange Output (first_output_out d.outputs) output.0;
      labels_of = no_breach CountOutOfRange Output (first_count_out (counts (label_owners d) (length d.outputs))) output.1;
      sources = no_breach CountOutOfRange Label (first_sources_out d.labels) numbers.0;
      labels = no_breach NumberOutOfRange Label (first_label_out d.labels) numbers.1;
      offsets = no_breach CountOutOfRange Label (first_offsets_out d.labels) label.1;
    }

-- ---- totals

pub totals_obey : (d : Document) → totals d ≡ Ok tt → TotalsObey d
totals_obey d h =
    let a = both (reported CountOutOfRange Bus (option_map (λ s. s.bus) (slice_get d.streams 1024))) (then_reported (reported CountOutOfRange Output (option_map (λ x. x.output) (slice_get d.labels 1024))) (reported CountOutOfRange Output (first_overfull (counts (entry_owners d.labels) (length d.outputs))))) h in
    let b = both (reported CountOutOfRange Output (option_map (λ x. x.output) (slice_get d.labels 1024))) (reported CountOutOfRange Output (first_overfull (counts (entry_owners d.labels) (length d.outputs)))) a.1 in
    record {
      streams = none CountOutOfRange Bus (option_map (λ s. s.bus) (slice_get d.streams 1024)) a.0;
      labels = none CountOutOfRange Output (option_map (λ x. x.output) (slice_get d.labels 1024)) b.0;
      entries = none CountOutOfRange Output (first_overfull (counts (entry_owners d.labels) (length d.outputs))) b.1;
    }

-- ---- quantities

pub quantities_obey : (d : Document) → quantities d ≡ Ok tt → QuantitiesObey d
quantities_obey d h =
    let o = both (reported ParameterDoubled Parameter (doubled same_parameter (map parameter_key d.parameters))) (later_quantities d) h in
    let a = both (reported IntervalReversed Parameter (first_inverted d.parameters)) (then_reported (reported MinimumBelowOneTick Stream (first_quick d.tick_us d.parameters d.streams)) (reported NoOutputInterval Label (first_narrow d.tick_us d.parameters d.labels))) o.1 in
    let b = both (reported MinimumBelowOneTick Stream (first_quick d.tick_us d.parameters d.streams)) (reported NoOutputInterval Label (first_narrow d.tick_us d.parameters d.labels)) a.1 in
    record {
      once = none ParameterDoubled Parameter (doubled same_parameter (map parameter_key d.parameters)) o.0;
      parameters = none IntervalReversed Parameter (first_inverted d.parameters) a.0;
      streams = none MinimumBelowOneTick Stream (first_quick d.tick_us d.parameters d.streams) b.0;
      labels = none NoOutputInterval Label (first_narrow d.tick_us d.parameters d.labels) b.1;
    }

-- ---- names

abbrev name_4 : Document → Verdict
name_4 d = then_reported (reported NameDoubled Output (doubled_name (output_names d))) (reported NameDoubled Label (doubled_name (label_names d)))

abbrev name_3 : Document → Verdict
name_3 d = then_reported (reported NameDoubled Router (doubled_name (router_names d))) (name_4 d)

abbrev name_2 : Document → Verdict
name_2 d = then_reported (reported NameDoubled Stream (doubled_name (stream_names d))) (name_3 d)

pub names_obey : (d : Document) → names d ≡ Ok tt → NamesObey d
names_obey d h =
    let a = both (reported NameDoubled Bus (doubled_name (bus_names d))) (name_2 d) h in
    let b = both (reported NameDoubled Stream (doubled_name (stream_names d))) (name_3 d) a.1 in
    let e = both (reported NameDoubled Router (doubled_name (router_names d))) (name_4 d) b.1 in
    let f = both (reported NameDoubled Output (doubled_name (output_names d))) (reported NameDoubled Label (doubled_name (label_names d))) e.1 in
    record {
      buses = none NameDoubled Bus (doubled_name (bus_names d)) a.0;
      streams = none NameDoubled Stream (doubled_name (stream_names d)) b.0;
      routers = none NameDoubled Router (doubled_name (router_names d)) e.0;
      outputs = none NameDoubled Output (doubled_name (output_names d)) f.0;
      labels = none NameDoubled Label (doubled_name (label_names d)) f.1;
    }

-- ---- references

abbrev ref_6 : Document → Verdict
ref_6 d = then_reported (reported BusNotVisitedByOne Bus (first_unserved d.routers d.buses)) (reported SourceDoubled Label (first_doubled_source d.labels))

abbrev ref_5 : Document → Verdict
ref_5 d = then_reported (reported NameAbsent Label (first_lost_label (stream_names d) d.labels)) (ref_6 d)

abbrev ref_4 : Document → Verdict
ref_4 d = then_reported (reported NameAbsent Router (first_lost_router (bus_names d) d.routers)) (ref_5 d)

abbrev ref_3 : Document → Verdict
ref_3 d = then_reported (reported StreamsOverlap Stream (doubled overlap d.streams)) (ref_4 d)

abbrev ref_2 : Document → Verdict
ref_2 d = then_reported (reported ParameterAbsent Label (first_unknown_label d.parameters d.labels)) (ref_3 d)

pub references_obey : (d : Document) → references d ≡ Ok tt → ReferencesObey d
references_obey d h =
    let a = both (reported ParameterAbsent Stream (first_unknown_stream d.parameters d.streams)) (ref_2 d) h in
    let b = both (reported ParameterAbsent Label (first_unknown_label d.parameters d.labels)) (ref_3 d) a.1 in
    let e = both (reported StreamsOverlap Stream (doubled overlap d.streams)) (ref_4 d) b.1 in
    let f = both (reported NameAbsent Router (first_lost_router (bus_names d) d.routers)) (ref_5 d) e.1 in
    let g = both (reported NameAbsent Label (first_lost_label (stream_names d) d.labels)) (ref_6 d) f.1 in
    let i = both (reported BusNotVisitedByOne Bus (first_unserved d.routers d.buses)) (reported SourceDoubled Label (first_doubled_source d.labels)) g.1 in
    record {
      streams = none ParameterAbsent Stream (first_unknown_stream d.parameters d.streams) a.0;
      labels = none ParameterAbsent Label (first_unknown_label d.parameters d.labels) b.0;
      apart = none StreamsOverlap Stream (doubled overlap d.streams) e.0;
      visits = none NameAbsent Router (first_lost_router (bus_names d) d.routers) f.0;
      sources = none NameAbsent Label (first_lost_label (stream_names d) d.labels) g.0;
      served = none BusNotVisitedByOne Bus (first_unserved d.routers d.buses) i.0;
      sources_once = none SourceDoubled Label (first_doubled_source d.labels) i.1;
    }

-- ---- schedules

abbrev sched_5 : Document → Verdict
sched_5 d = then_reported (reported RouterCannotKeepPace Router (first_unable_router d.routers)) (reported OutputCannotKeepPace Output (first_unable_output d.tick_us d.outputs))

abbrev sched_4 : Document → Verdict
sched_4 d = then_reported (reported LabelDoubled Label (first_doubled_label d.labels)) (sched_5 d)

abbrev sched_3 : Document → Verdict
sched_3 d = then_reported (reported OffsetDoubled Label (first_doubled_offset (entries_from 0 d.labels))) (sched_4 d)

abbrev sched_2 : Document → Verdict
sched_2 d = then_reported (reported OffsetPastFrame Label (first_late d.outputs d.labels)) (sched_3 d)

pub schedules_obey : (d : Document) → schedules d ≡ Ok tt → SchedulesObey d
schedules_obey d h =
    let a = both (reported FormatsDiffer Label (first_different d.parameters d.streams (stream_names d) d.labels)) (sched_2 d) h in
    let b = both (reported OffsetPastFrame Label (first_late d.outputs d.labels)) (sched_3 d) a.1 in
    let e = both (reported OffsetDoubled Label (first_doubled_offset (entries_from 0 d.labels))) (sched_4 d) b.1 in
    let f = both (reported LabelDoubled Label (first_doubled_label d.labels)) (sched_5 d) e.1 in
    let g = both (reported RouterCannotKeepPace Router (first_unable_router d.routers)) (reported OutputCannotKeepPace Output (first_unable_output d.tick_us d.outputs)) f.1 in
    record {
      formats = none FormatsDiffer Label (first_different d.parameters d.streams (stream_names d) d.labels) a.0;
      late = none OffsetPastFrame Label (first_late d.outputs d.labels) b.0;
      offsets = none OffsetDoubled Label (first_doubled_offset (entries_from 0 d.labels)) e.0;
      labels = none LabelDoubled Label (first_doubled_label d.labels) f.0;
      routers = none RouterCannotKeepPace Router (first_unable_router d.routers) g.0;
      outputs = none OutputCannotKeepPace Output (first_unable_output d.tick_us d.outputs) g.1;
    }

-- ---- all rules

pub obeys_first : (d : Document) → first_rules d ≡ Ok tt → (shape d ≡ Ok tt) × (totals d ≡ Ok tt) × (quantities d ≡ Ok tt)
obeys_first d h =
    let a = both (shape d) (then_reported (totals d) (quantities d)) h in
    let b = both (totals d) (quantities d) a.1 in
    (a.0, b.0, b.1)

pub obeys : (d : Document) → first_rules d ≡ Ok tt → later_rules d ≡ Ok tt → Obeys d
obeys d first later =
    let a = obeys_first d first in
    let b = both (names d) (then_reported (references d) (schedules d)) later in
    let e = both (references d) (schedules d) b.1 in
    record {
      shape = shape_obeys d a.0;
      totals = totals_obey d a.1;
      quantities = quantities_obey d a.2;
      names = names_obey d b.0;
      references = references_obey d e.0;
      schedules = schedules_obey d e.1;
    }

-- an answer that tells the later rules, where the first are kept
pub obeys_answered : {A : Type 0} (d : Document) (answer : Result A BuildError) → first_rules d ≡ Ok tt → Tells (later_rules d) answer → IfOk answer (λ a. Obeys d)
obeys_answered d (Ok a) first later = obeys d first later
obeys_answered d (Err e) first later = tt
