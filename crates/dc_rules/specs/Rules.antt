-- The rules of tables in the order in which they are tested, and the first that is broken.
use Rattle.std.specs.Prelude.{◌≡◌, ℕ, zero, suc, ◌*◌, Bool, true, false, ◌==◌, ◌&&◌, ◌||◌, not, nat_lt, nat_le, if◌then◌else◌, Option, Some, None, is_some, is_none, option_map, option_and_then, Result, Ok, Err, List, [], ◌∷◌, ◌++◌, length, map, count_by, position, slice_get, slice_index}
use Rattle.std.specs.List.{list_any}
use Rattle.std.specs.Option.{option_map_or}
use Rattle.std.specs.Str.{bytes_eq}
use Rattle.dc_word.specs.declared.format.Format.{Format}
use Rattle.dc_word.specs.declared.format.Format.TheVariants.{Bnr, Bcd, Disc}
use Rattle.dc_document.specs.declared.fault.TableRule.{TableRule}
use Rattle.dc_document.specs.declared.fault.TableRule.TheVariants.{NumberOutOfRange, CountOutOfRange, ParameterDoubled, IntervalReversed, MinimumBelowOneTick, NoOutputInterval, NameDoubled, ParameterAbsent, StreamsOverlap, NameAbsent, BusNotVisitedByOne, SourceDoubled, FormatsDiffer, OffsetPastFrame, OffsetDoubled, LabelDoubled, RouterCannotKeepPace, OutputCannotKeepPace}
use Rattle.dc_document.specs.declared.fault.Section.{Section}
use Rattle.dc_document.specs.declared.fault.Section.TheVariants.{Top, Parameter, Bus, Stream, Router, Output, Label}
use Rattle.dc_document.specs.declared.fault.BuildError.{BuildError}
use Rattle.dc_document.specs.declared.fault.BuildError.TheVariants.{Refused, Memory}
use Rattle.dc_rules.specs.declared.breach.Breach.{Breach}
use Rattle.dc_document.specs.declared.keys.ParameterKey.{ParameterKey}
use Rattle.dc_rules.specs.declared.keys.LabelKey.{LabelKey}
use Rattle.dc_rules.specs.declared.keys.PlacedOffset.{PlacedOffset}
use Rattle.dc_rules.specs.declared.keys.PlacedEntry.{PlacedEntry}
use Rattle.dc_dict.specs.declared.parameter.Parameter.{Parameter as ParameterPart}
use Rattle.dc_document.specs.declared.parts.BusPart.{BusPart}
use Rattle.dc_document.specs.declared.parts.StreamPart.{StreamPart}
use Rattle.dc_document.specs.declared.parts.RouterPart.{RouterPart}
use Rattle.dc_document.specs.declared.parts.OutputPart.{OutputPart}
use Rattle.dc_document.specs.declared.parts.LabelPart.{LabelPart}
use Rattle.dc_document.specs.Document.{Document, stream_owners, label_owners}
use Rattle.dc_dict.specs.Rows.{row_of}
use Rattle.dc_dict.specs.Ticks.{in_minimum, out_minimum, out_maximum}
use Rattle.dc_document.specs.Ticks.{output_gap}
use Rattle.dc_document.specs.Keys.{same_parameter, parameter_key, stream_key, label_key}
use Rattle.dc_document.specs.Names.{number_of}
use Rattle.dc_tables.specs.Sdis.{sdis_meet}
use Rattle.dc_bound.specs.declared.limits.TheConstants.{GREATEST_QUEUE, LONGEST_FRAME, LONGEST_TICK, MOST_ENTRIES}
use Rattle.dc_document.specs.declared.limits.TheConstants.{GREATEST_AGE, GREATEST_JITTER_US, LAST_OFFSET, LONGEST_INTERVAL_US, LONGEST_STALE, LONGEST_WITHIN, MOST_BUSES, MOST_LABELS, MOST_MEMBERS, MOST_OFFSETS, MOST_OUTPUTS, MOST_PARAMETERS, MOST_ROUTERS, MOST_SOURCES, MOST_STEPS, MOST_STREAMS, MOST_VISITS, SHORTEST_TICK}

-- ---- what is reported

-- all is well, or a rule is broken
abbrev pub Verdict : Type 0
Verdict = Result (Unit {0}) BuildError

-- the verdict of a rule that is broken first at this index, if at any
abbrev pub reported : TableRule → Section → Option ℕ → Verdict
reported rule section None = Ok tt
reported rule section (Some i) = Err (Refused (record { rule = rule; section = section; index = i }))

-- a verdict, and where all is well the one after it
abbrev pub then_reported : Verdict → Verdict → Verdict
then_reported (Ok x) later = later
then_reported (Err e) later = Err e

-- a rule that is broken first at this index, with its place among the tables of its kind
abbrev pub breach : TableRule → Section → Option ℕ → Option Breach
breach rule section None = None
breach rule section (Some i) = Some (record { place = i; fault = record { rule = rule; section = section; index = i } })

-- the one at the earlier place, the first where both are at one
abbrev pub earlier : Option Breach → Option Breach → Option Breach
earlier None b = b
earlier (Some a) None = Some a
earlier (Some a) (Some b) = if nat_lt b.place a.place then Some b else Some a

-- a breach of a member, reported at the place of its owner
abbrev pub at_owner : List ℕ → Option Breach → Option Breach
at_owner owners None = None
at_owner owners (Some b) = Some (record { place = slice_index owners b.place; fault = b.fault })

-- the verdict of a breach, if there is one
abbrev pub breach_reported : Option Breach → Verdict
breach_reported None = Ok tt
breach_reported (Some b) = Err (Refused b.fault)

-- ---- words of the rules

-- whether a number is below the least or above the greatest that it may be
abbrev pub outside : (low high n : ℕ) → Bool
outside low high n = nat_lt n low || nat_lt high n

-- the top's index, where this holds
abbrev pub at_top : Bool → Option ℕ
at_top true = Some 0
at_top false = None

-- how many members each of the owners has
abbrev pub counts : List ℕ → ℕ → List ℕ
counts owners zero = []
counts owners (suc n) = counts owners n ++ count_by (λ o. o == n) owners ∷ []

-- the first item that is related to one before it
abbrev pub doubled_from : {A : Type 0} → (A → A → Bool) → List A → ℕ → List A → Option ℕ
doubled_from R past i [] = None
doubled_from R past i (x ∷ xs) = if list_any (R x) past then Some i else doubled_from R (past ++ x ∷ []) (suc i) xs

-- the same, from the start of a list
abbrev pub doubled : {A : Type 0} → (A → A → Bool) → List A → Option ℕ
doubled R xs = doubled_from R [] 0 xs

-- ---- shapes: numbers in their ranges, lists in their limits

-- whether an interval of the parameter, in microseconds, is out of its range
abbrev pub parameter_out : ParameterPart → Bool
parameter_out p = outside 1 LONGEST_INTERVAL_US p.min_us || outside 1 LONGEST_INTERVAL_US p.max_us

-- whether the router's steps, the ticks for them, or its most steps in one tick are out of range
abbrev pub router_out : RouterPart → Bool
router_out r = outside 1 MOST_STEPS r.steps || outside 1 LONGEST_WITHIN r.within || outside 1 MOST_STEPS r.most

-- whether the output's sends, the ticks for them, or its frame in ticks are out of range
abbrev pub output_out : OutputPart → Bool
output_out o = outside 1 MOST_STEPS o.steps || outside 1 LONGEST_WITHIN o.within || outside 1 LONGEST_FRAME o.frame

-- whether an offset, in ticks, is past the last that there may be
abbrev pub offsets_out : List ℕ → Bool
offsets_out offsets = list_any (λ t. nat_lt LAST_OFFSET t) offsets

-- whether the label's stale time, its age limit or an offset, all in ticks, is out of range
abbrev pub label_out : LabelPart → Bool
label_out x = (outside 1 LONGEST_STALE x.stale || outside 1 GREATEST_AGE x.age) || offsets_out x.offsets.items

-- the first bus with a number out of its range
abbrev pub first_bus_out : List BusPart → Option ℕ
first_bus_out buses = position (λ b. outside 1 GREATEST_QUEUE b.queue) buses

-- the first router with a number out of its range
abbrev pub first_router_out : List RouterPart → Option ℕ
first_router_out routers = position router_out routers

-- the first output with a number out of its range
abbrev pub first_output_out : List OutputPart → Option ℕ
first_output_out outputs = position output_out outputs

-- the first label with a number out of its range
abbrev pub first_label_out : List LabelPart → Option ℕ
first_label_out labels = position label_out labels

-- the first bus or output with too few or too many members: streams of a bus, labels of an output
abbrev pub first_count_out : List ℕ → Option ℕ
first_count_out counts = position (λ n. outside 1 MOST_MEMBERS n) counts

-- the first router that visits no bus, or has too long a list of visits
abbrev pub first_visits_out : List RouterPart → Option ℕ
first_visits_out routers = position (λ r. outside 1 MOST_VISITS (length r.visits.items)) routers

-- the first label with no source, or too many
abbrev pub first_sources_out : List LabelPart → Option ℕ
first_sources_out labels = position (λ x. outside 1 MOST_SOURCES (length x.sources.items)) labels

-- the first label with no offset, or too many
abbrev pub first_offsets_out : List LabelPart → Option ℕ
first_offsets_out labels = position (λ x. outside 1 MOST_OFFSETS (length x.offsets.items)) labels

-- the first with a jitter out of its range
abbrev pub first_stream_out : List StreamPart → Option ℕ
first_stream_out streams = position (λ s. nat_lt GREATEST_JITTER_US s.jitter_us) streams

-- the first bus out of shape: its queue, then how many streams it has
abbrev pub bus_shapes : List BusPart → List ℕ → Option Breach
bus_shapes buses counts = earlier (breach NumberOutOfRange Bus (first_bus_out buses)) (breach CountOutOfRange Bus (first_count_out counts))

-- the first stream out of shape: its numbers
abbrev pub stream_shapes : List StreamPart → Option Breach
stream_shapes streams = breach NumberOutOfRange Stream (first_stream_out streams)

-- the first router out of shape: its numbers, then how many visits it has
abbrev pub router_shapes : List RouterPart → Option Breach
router_shapes routers = earlier (breach NumberOutOfRange Router (first_router_out routers)) (breach CountOutOfRange Router (first_visits_out routers))

-- the first output out of shape: its numbers, then how many labels it has
abbrev pub output_shapes : List OutputPart → List ℕ → Option Breach
output_shapes outputs counts = earlier (breach NumberOutOfRange Output (first_output_out outputs)) (breach CountOutOfRange Output (first_count_out counts))

-- the first label out of shape: how many sources it has, then its numbers, then how many offsets it has
abbrev pub label_shapes : List LabelPart → Option Breach
label_shapes labels =
    earlier (earlier (breach CountOutOfRange Label (first_sources_out labels)) (breach NumberOutOfRange Label (first_label_out labels))) (breach CountOutOfRange Label (first_offsets_out labels))

-- the top: the length of a tick in its range, and the four lists in their limits
abbrev pub top_shape : Document → Verdict
top_shape d =
    then_reported (reported NumberOutOfRange Top (at_top (outside SHORTEST_TICK LONGEST_TICK d.tick_us)))
    (then_reported (reported CountOutOfRange Top (at_top (nat_lt MOST_PARAMETERS (length d.parameters))))
    (then_reported (reported CountOutOfRange Top (at_top (nat_lt MOST_BUSES (length d.buses))))
    (then_reported (reported CountOutOfRange Top (at_top (nat_lt MOST_ROUTERS (length d.routers))))
    (reported CountOutOfRange Top (at_top (nat_lt MOST_OUTPUTS (length d.outputs)))))))

-- the top, each parameter, each bus followed by its streams, each router, each output followed by its labels
abbrev pub shape : Document → Verdict
shape d =
    then_reported (top_shape d)
    (then_reported (reported NumberOutOfRange Parameter (position parameter_out d.parameters))
    (then_reported (breach_reported (earlier (bus_shapes d.buses (counts (stream_owners d) (length d.buses))) (at_owner (stream_owners d) (stream_shapes d.streams))))
    (then_reported (breach_reported (router_shapes d.routers))
    (breach_reported (earlier (output_shapes d.outputs (counts (label_owners d) (length d.outputs))) (at_owner (label_owners d) (label_shapes d.labels)))))))

-- ---- totals over the tables

-- the entries of a label
abbrev pub label_entries : ℕ → LabelPart → List PlacedEntry
label_entries i x = map (λ t. record { output = x.output; offset = t; label = i }) x.offsets.items

-- the entries of all outputs in the order of the text, where the first label has number i
abbrev pub entries_from : ℕ → List LabelPart → List PlacedEntry
entries_from i [] = []
entries_from i (x ∷ xs) = label_entries i x ++ entries_from (suc i) xs

-- the output of each entry, in the order of the text
abbrev pub entry_owners : List LabelPart → List ℕ
entry_owners labels = map (λ e. e.output) (entries_from 0 labels)

-- an output with too many entries
abbrev pub first_overfull : List ℕ → Option ℕ
first_overfull counts = position (λ n. nat_lt MOST_ENTRIES n) counts

-- a total is passed at the owner of the first member past it
abbrev pub totals : Document → Verdict
totals d =
    then_reported (reported CountOutOfRange Bus (option_map (λ s. s.bus) (slice_get d.streams MOST_STREAMS)))
    (then_reported (reported CountOutOfRange Output (option_map (λ x. x.output) (slice_get d.labels MOST_LABELS)))
    (reported CountOutOfRange Output (first_overfull (counts (entry_owners d.labels) (length d.outputs)))))

-- ---- parameters

-- the parameter of this key: its row of the dictionary
abbrev pub parameter_of : List ParameterPart → ParameterKey → Option ParameterPart
parameter_of parameters key = row_of parameters key.label key.equipment

-- the first parameter whose greatest interval is below its least, in microseconds
abbrev pub first_inverted : List ParameterPart → Option ℕ
first_inverted parameters = position (λ p. nat_lt p.max_us p.min_us) parameters

-- a parameter that is there and has an input minimum below one tick
abbrev pub too_quick : ℕ → Option ParameterPart → Bool
too_quick tick None = false
too_quick tick (Some p) = nat_lt (in_minimum p.min_us tick) 1

-- a parameter that is there and leaves no output interval
abbrev pub no_interval : ℕ → Option ParameterPart → Bool
no_interval tick None = false
no_interval tick (Some p) = nat_lt (out_maximum p.max_us tick) (out_minimum p.min_us tick)

-- the first stream whose parameter has an input minimum below one tick
abbrev pub first_quick : ℕ → List ParameterPart → List StreamPart → Option ℕ
first_quick tick parameters streams = position (λ s. too_quick tick (parameter_of parameters (stream_key s))) streams

-- the first label whose parameter leaves no output interval
abbrev pub first_narrow : ℕ → List ParameterPart → List LabelPart → Option ℕ
first_narrow tick parameters labels = position (λ x. no_interval tick (parameter_of parameters (label_key x))) labels

-- the first stream whose parameter is not there
abbrev pub first_unknown_stream : List ParameterPart → List StreamPart → Option ℕ
first_unknown_stream parameters streams = position (λ s. is_none (parameter_of parameters (stream_key s))) streams

-- the first label whose parameter is not there
abbrev pub first_unknown_label : List ParameterPart → List LabelPart → Option ℕ
first_unknown_label parameters labels = position (λ x. is_none (parameter_of parameters (label_key x))) labels

-- ---- names

-- the names of the buses in order
abbrev pub bus_names : Document → List (List ℕ)
bus_names d = map (λ b. b.name) d.buses

-- the names of the streams in order
abbrev pub stream_names : Document → List (List ℕ)
stream_names d = map (λ s. s.name) d.streams

-- the names of the routers in order
abbrev pub router_names : Document → List (List ℕ)
router_names d = map (λ r. r.name) d.routers

-- the names of the outputs in order
abbrev pub output_names : Document → List (List ℕ)
output_names d = map (λ o. o.name) d.outputs

-- the names of the labels in order
abbrev pub label_names : Document → List (List ℕ)
label_names d = map (λ x. x.name) d.labels

-- the first name that is the same as one before it
abbrev pub doubled_name : List (List ℕ) → Option ℕ
doubled_name names = doubled bytes_eq names

-- whether one of these names is not there
abbrev pub has_unknown : List (List ℕ) → List (List ℕ) → Bool
has_unknown names wanted = list_any (λ n. is_none (number_of names n)) wanted

-- the first router that visits a name that is not there
abbrev pub first_lost_router : List (List ℕ) → List RouterPart → Option ℕ
first_lost_router names routers = position (λ r. has_unknown names r.visits.items) routers

-- the first label with a source whose name is not there
abbrev pub first_lost_label : List (List ℕ) → List LabelPart → Option ℕ
first_lost_label names labels = position (λ x. has_unknown names x.sources.items) labels

-- ---- streams, routers, labels

-- two streams of one bus and one label, which one word may fit
abbrev pub overlap : StreamPart → StreamPart → Bool
overlap s t = ((s.bus == t.bus) && (s.label == t.label)) && sdis_meet s.sdi t.sdi

-- whether the router visits the bus of this name
abbrev pub visits_bus : List ℕ → RouterPart → Bool
visits_bus name r = list_any (bytes_eq name) r.visits.items

-- a bus that no router visits, or two
abbrev pub first_unserved : List RouterPart → List BusPart → Option ℕ
first_unserved routers buses = position (λ b. not (count_by (visits_bus b.name) routers == 1)) buses

-- the first label that names a source twice
abbrev pub first_doubled_source : List LabelPart → Option ℕ
first_doubled_source labels = position (λ x. is_some (doubled_name x.sources.items)) labels

-- a number for each format
abbrev pub format_number : Format → ℕ
format_number Bnr = 0
format_number Bcd = 1
format_number Disc = 2

-- two parameters that are there and have one format
abbrev pub same_format : Option ParameterPart → Option ParameterPart → Bool
same_format None q = false
same_format (Some p) None = false
same_format (Some p) (Some q) = format_number p.format == format_number q.format

-- the parameter of the stream of this name
abbrev pub source_parameter : List ParameterPart → List StreamPart → List (List ℕ) → List ℕ → Option ParameterPart
source_parameter parameters streams names n =
    option_and_then (λ s. parameter_of parameters (stream_key s)) (option_and_then (slice_get streams) (number_of names n))

-- whether a source's format is not the label's
abbrev pub differs : List ParameterPart → List StreamPart → List (List ℕ) → LabelPart → Bool
differs parameters streams names x =
    list_any (λ n. not (same_format (parameter_of parameters (label_key x)) (source_parameter parameters streams names n))) x.sources.items

-- the first label with a source of another format
abbrev pub first_different : List ParameterPart → List StreamPart → List (List ℕ) → List LabelPart → Option ℕ
first_different parameters streams names labels = position (λ x. differs parameters streams names x) labels

-- the frame of the output of this number, in ticks; 0 where there is none
abbrev pub frame_of : List OutputPart → ℕ → ℕ
frame_of outputs o = option_map_or (λ p. p.frame) (slice_get outputs o) 0

-- the first label with an offset that is not below its output's frame
abbrev pub first_late : List OutputPart → List LabelPart → Option ℕ
first_late outputs labels = position (λ x. list_any (nat_le (frame_of outputs x.output)) x.offsets.items) labels

-- two entries of one output at one offset
abbrev pub same_offset : PlacedOffset → PlacedOffset → Bool
same_offset a b = (a.output == b.output) && (a.offset == b.offset)

-- an entry by its output and offset alone
abbrev pub offset_of : PlacedEntry → PlacedOffset
offset_of e = record { output = e.output; offset = e.offset }

-- the label of the first entry at an offset that is taken
abbrev pub first_doubled_offset : List PlacedEntry → Option ℕ
first_doubled_offset entries = option_map (λ e. e.label) (option_and_then (slice_get entries) (doubled same_offset (map offset_of entries)))

-- two labels of one output with one label and SDI
abbrev pub same_label : LabelKey → LabelKey → Bool
same_label a b = (a.output == b.output) && ((a.label == b.label) && (a.sdi == b.sdi))

-- a label by its output, label and SDI alone
abbrev pub label_id : LabelPart → LabelKey
label_id x = record { output = x.output; label = x.label; sdi = x.sdi }

-- the first label with the output, label and SDI of one before it
abbrev pub first_doubled_label : List LabelPart → Option ℕ
first_doubled_label labels = doubled same_label (map label_id labels)

-- the first router with more steps to make in its ticks than it may make in them
abbrev pub first_unable_router : List RouterPart → Option ℕ
first_unable_router routers = position (λ r. nat_lt (r.most * r.within) r.steps) routers

-- the first output with more sends to make in its ticks than have room in them, their gap apart
abbrev pub first_unable_output : ℕ → List OutputPart → Option ℕ
first_unable_output tick outputs = position (λ o. nat_lt o.within (o.steps * output_gap tick o.speed)) outputs

-- ---- all rules

-- after T09
abbrev pub later_quantities : Document → Verdict
later_quantities d =
    then_reported (reported IntervalReversed Parameter (first_inverted d.parameters))
    (then_reported (reported MinimumBelowOneTick Stream (first_quick d.tick_us d.parameters d.streams))
    (reported NoOutputInterval Label (first_narrow d.tick_us d.parameters d.labels)))

-- T09 to T12: the parameters, and what they leave of intervals in ticks
abbrev pub quantities : Document → Verdict
quantities d =
    then_reported (reported ParameterDoubled Parameter (doubled same_parameter (map parameter_key d.parameters))) (later_quantities d)

-- T13: names that are doubled within their kind
abbrev pub names : Document → Verdict
names d =
    then_reported (reported NameDoubled Bus (doubled_name (bus_names d)))
    (then_reported (reported NameDoubled Stream (doubled_name (stream_names d)))
    (then_reported (reported NameDoubled Router (doubled_name (router_names d)))
    (then_reported (reported NameDoubled Output (doubled_name (output_names d)))
    (reported NameDoubled Label (doubled_name (label_names d))))))

-- T14 to T18: absent parameters and names, streams that overlap, visits of buses, doubled sources
abbrev pub references : Document → Verdict
references d =
    then_reported (reported ParameterAbsent Stream (first_unknown_stream d.parameters d.streams))
    (then_reported (reported ParameterAbsent Label (first_unknown_label d.parameters d.labels))
    (then_reported (reported StreamsOverlap Stream (doubled overlap d.streams))
    (then_reported (reported NameAbsent Router (first_lost_router (bus_names d) d.routers))
    (then_reported (reported NameAbsent Label (first_lost_label (stream_names d) d.labels))
    (then_reported (reported BusNotVisitedByOne Bus (first_unserved d.routers d.buses))
    (reported SourceDoubled Label (first_doubled_source d.labels)))))))

-- T19 to T24: formats, offsets and labels, and the pace of routers and outputs
abbrev pub schedules : Document → Verdict
schedules d =
    then_reported (reported FormatsDiffer Label (first_different d.parameters d.streams (stream_names d) d.labels))
    (then_reported (reported OffsetPastFrame Label (first_late d.outputs d.labels))
    (then_reported (reported OffsetDoubled Label (first_doubled_offset (entries_from 0 d.labels)))
    (then_reported (reported LabelDoubled Label (first_doubled_label d.labels))
    (then_reported (reported RouterCannotKeepPace Router (first_unable_router d.routers))
    (reported OutputCannotKeepPace Output (first_unable_output d.tick_us d.outputs))))))

-- the rules up to T12
abbrev pub first_rules : Document → Verdict
first_rules d = then_reported (shape d) (then_reported (totals d) (quantities d))

-- the rules from T13 on
abbrev pub later_rules : Document → Verdict
later_rules d = then_reported (names d) (then_reported (references d) (schedules d))

-- the first rule that is broken
abbrev pub verdict_of : Document → Verdict
verdict_of d = then_reported (first_rules d) (later_rules d)

-- the fault of an answer
abbrev pub fault_in : {A : Type 0} → Result A BuildError → Option BuildError
fault_in (Ok x) = None
fault_in (Err e) = Some e

-- an answer with this fault, or none, tells this verdict, or that memory is out
abbrev pub TellsFault : Verdict → Option BuildError → Type 0
TellsFault verdict None = verdict ≡ Ok tt
TellsFault verdict (Some (Refused f)) = verdict ≡ Err (Refused f)
TellsFault verdict (Some (Memory e)) = Unit {0}

-- an answer tells this verdict, or that memory is out
abbrev pub Tells : {A : Type 0} → Verdict → Result A BuildError → Type 0
Tells verdict r = TellsFault verdict (fault_in r)
