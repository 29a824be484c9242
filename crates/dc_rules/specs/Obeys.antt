-- What it says that a document keeps each rule.
use Rattle.std.specs.Prelude.{◌≡◌, ℕ, false, nat_lt, None, option_map, length, map, position, slice_get}
use Rattle.dc_document.specs.Document.{Document, stream_owners, label_owners}
use Rattle.dc_rules.specs.Rules.{outside, counts, doubled, parameter_out, first_bus_out, first_count_out, first_stream_out, first_router_out, first_visits_out, first_output_out, first_label_out, first_sources_out, first_offsets_out, entries_from, entry_owners, first_overfull, first_inverted, first_quick, first_narrow, doubled_name, bus_names, stream_names, router_names, output_names, label_names, first_unknown_stream, first_unknown_label, overlap, first_lost_router, first_lost_label, first_unserved, first_doubled_source, first_different, first_late, first_doubled_offset, first_doubled_label, first_unable_router, first_unable_output}
use Rattle.dc_document.specs.Keys.{same_parameter, parameter_key}
use Rattle.dc_bound.specs.declared.limits.TheConstants.{LONGEST_TICK}
use Rattle.dc_document.specs.declared.limits.TheConstants.{MOST_BUSES, MOST_LABELS, MOST_OUTPUTS, MOST_PARAMETERS, MOST_ROUTERS, MOST_STREAMS, SHORTEST_TICK}

-- the top's number and the lengths of its lists
pub record TopObeys (d : Document) : Type 0 where
  pub tick : outside SHORTEST_TICK LONGEST_TICK d.tick_us ≡ false
  pub parameters : nat_lt MOST_PARAMETERS (length d.parameters) ≡ false
  pub buses : nat_lt MOST_BUSES (length d.buses) ≡ false
  pub routers : nat_lt MOST_ROUTERS (length d.routers) ≡ false
  pub outputs : nat_lt MOST_OUTPUTS (length d.outputs) ≡ false

-- numbers in their ranges, lists in their limits
pub record ShapeObeys (d : Document) : Type 0 where
  pub top : TopObeys d
  pub parameters : position parameter_out d.parameters ≡ None
  pub buses : first_bus_out d.buses ≡ None
  pub streams_of : first_count_out (counts (stream_owners d) (length d.buses)) ≡ None
  pub streams : first_stream_out d.streams ≡ None
  pub routers : first_router_out d.routers ≡ None
  pub visits : first_visits_out d.routers ≡ None
  pub outputs : first_output_out d.outputs ≡ None
  pub labels_of : first_count_out (counts (label_owners d) (length d.outputs)) ≡ None
  pub sources : first_sources_out d.labels ≡ None
  pub labels : first_label_out d.labels ≡ None
  pub offsets : first_offsets_out d.labels ≡ None

-- totals over the tables
pub record TotalsObey (d : Document) : Type 0 where
  pub streams : option_map (λ s. s.bus) (slice_get d.streams MOST_STREAMS) ≡ None
  pub labels : option_map (λ x. x.output) (slice_get d.labels MOST_LABELS) ≡ None
  pub entries : first_overfull (counts (entry_owners d.labels) (length d.outputs)) ≡ None

-- parameters, and the intervals that they leave
pub record QuantitiesObey (d : Document) : Type 0 where
  pub once : doubled same_parameter (map parameter_key d.parameters) ≡ None
  pub parameters : first_inverted d.parameters ≡ None
  pub streams : first_quick d.tick_us d.parameters d.streams ≡ None
  pub labels : first_narrow d.tick_us d.parameters d.labels ≡ None

-- no name is doubled within its kind
pub record NamesObey (d : Document) : Type 0 where
  pub buses : doubled_name (bus_names d) ≡ None
  pub streams : doubled_name (stream_names d) ≡ None
  pub routers : doubled_name (router_names d) ≡ None
  pub outputs : doubled_name (output_names d) ≡ None
  pub labels : doubled_name (label_names d) ≡ None

-- what one table names of another is there
pub record ReferencesObey (d : Document) : Type 0 where
  pub streams : first_unknown_stream d.parameters d.streams ≡ None
  pub labels : first_unknown_label d.parameters d.labels ≡ None
  pub apart : doubled overlap d.streams ≡ None
  pub visits : first_lost_router (bus_names d) d.routers ≡ None
  pub sources : first_lost_label (stream_names d) d.labels ≡ None
  pub served : first_unserved d.routers d.buses ≡ None
  pub sources_once : first_doubled_source d.labels ≡ None

-- formats, entries and budgets
pub record SchedulesObey (d : Document) : Type 0 where
  pub formats : first_different d.parameters d.streams (stream_names d) d.labels ≡ None
  pub late : first_late d.outputs d.labels ≡ None
  pub offsets : first_doubled_offset (entries_from 0 d.labels) ≡ None
  pub labels : first_doubled_label d.labels ≡ None
  pub routers : first_unable_router d.routers ≡ None
  pub outputs : first_unable_output d.tick_us d.outputs ≡ None

-- all rules
pub record Obeys (d : Document) : Type 0 where
  pub shape : ShapeObeys d
  pub totals : TotalsObey d
  pub quantities : QuantitiesObey d
  pub names : NamesObey d
  pub references : ReferencesObey d
  pub schedules : SchedulesObey d
