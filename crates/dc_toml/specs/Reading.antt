-- What the text of tables says, or its first fault: table by table, and for each its keys in their order.
use Rattle.std.specs.Prelude.{ℕ, ◌-◌, ◌*◌, ℤ, pos, negsuc, List, [], ◌∷◌, ◌++◌, length, replicate, codes, Bool, true, false, ◌&&◌, ◌==◌, nat_le, if◌then◌else◌, Option, Some, None, is_some, option_and_then, Ok}
use Rattle.std.specs.Str.{is_utf8}
use Rattle.toml.specs.Data.{Data, Items, no_items, item, Members, get_member, as_integer}
use Rattle.toml.specs.Parse.{parse_document}
use Rattle.dc_dict.specs.Ticks.{out_maximum}
use Rattle.dc_document.specs.declared.fault.TableRule.TheVariants.{NotToml, VersionUnknown, KeyAbsent, KeyUnknown, NumberOutOfRange, CountOutOfRange}
use Rattle.dc_document.specs.declared.parts.Version.{Version}
use Rattle.dc_document.specs.declared.parts.Version.TheVariants.{One, Two}
use Rattle.dc_document.specs.declared.fault.Section.TheVariants.{Top, Parameter, Bus, Stream, Router, Output, Label}
use Rattle.dc_toml.specs.declared.layout.Layout.{Layout}
use Rattle.dc_toml.specs.declared.layout.Layout.TheVariants.{Wanted, Open}
use Rattle.dc_toml.specs.declared.place.TablePlace.{TablePlace}
use Rattle.dc_toml.specs.Faults.{Reading, place, refused, ◌>>=◌, wanted, found}
use Rattle.dc_toml.specs.Written.{Written, nothing_written, and_parameter, and_bus, and_stream, and_router, and_output, and_label}
use Rattle.dc_toml.specs.Keys.{table_of, known, present, keyed, bool_at, number_at, name_at, speed_at, format_at, label_at, equipment_at, sdi_at, stream_sdi_at, names_at, offsets_at, tables_at, optional_at}
use Rattle.dc_bound.specs.declared.limits.TheConstants.{GREATEST_QUEUE, LONGEST_FRAME, LONGEST_TICK}
use Rattle.dc_document.specs.declared.limits.TheConstants.{GREATEST_AGE, GREATEST_JITTER_US, LONGEST_INTERVAL_US, LONGEST_STALE, LONGEST_WITHIN, MOST_BUSES, MOST_MEMBERS, MOST_OFFSETS, MOST_OUTPUTS, MOST_PARAMETERS, MOST_ROUTERS, MOST_SOURCES, MOST_STEPS, MOST_VISITS, SHORTEST_TICK, TEXT_LIMIT}

-- the tables of a list in order, each after what was read before it
abbrev pub each_table : (Written → Data → Reading Written) → Written → Items → Reading Written
each_table one d no_items = Ok d
each_table one d (item v vs) = one d v >>= (λ more. each_table one more vs)

-- ---- the places of the next tables

-- of the next parameter, by its number from 0 in the order of the text
abbrev pub next_parameter : Written → TablePlace
next_parameter d = place Parameter (length d.parameters)

-- of the next bus
abbrev pub next_bus : Written → TablePlace
next_bus d = place Bus (length d.buses)

-- of the next stream, counted through all buses
abbrev pub next_stream : Written → TablePlace
next_stream d = place Stream (length d.streams)

-- of the next router
abbrev pub next_router : Written → TablePlace
next_router d = place Router (length d.routers)

-- of the next output
abbrev pub next_output : Written → TablePlace
next_output d = place Output (length d.outputs)

-- of the next label, counted through all outputs
abbrev pub next_label : Written → TablePlace
next_label d = place Label (length d.labels)

-- ---- parameters

-- the keys of a parameter
abbrev pub parameter_keys : List (List ℕ)
parameter_keys = codes "label" ∷ codes "equipment" ∷ codes "format" ∷ codes "min_us" ∷ codes "max_us" ∷ []

-- a parameter, after what was read before it
unfoldable pub read_parameter : Written → Data → Reading Written
read_parameter d v = do
  ms ← table_of (next_parameter d) v
  k ← keyed (next_parameter d) parameter_keys ms
  label ← label_at (next_parameter d) (codes "label") ms
  equipment ← equipment_at (next_parameter d) (codes "equipment") ms
  format ← format_at (next_parameter d) (codes "format") ms
  min_us ← number_at (next_parameter d) (codes "min_us") 1 LONGEST_INTERVAL_US ms
  max_us ← number_at (next_parameter d) (codes "max_us") 1 LONGEST_INTERVAL_US ms
  Ok (and_parameter d (record { label = label; equipment = equipment; format = format; min_us = min_us; max_us = max_us }))

-- ---- buses, each followed by its streams

-- the keys of a stream, by the version
abbrev pub stream_keys : Version → List (List ℕ)
stream_keys One = codes "name" ∷ codes "label" ∷ codes "equipment" ∷ codes "sdi" ∷ []
stream_keys Two = codes "name" ∷ codes "label" ∷ codes "equipment" ∷ codes "sdi" ∷ codes "jitter_us" ∷ []

-- the jitter of a stream in microseconds; in version 1 there is none
abbrev pub jitter_at : Version → TablePlace → Members → Reading ℕ
jitter_at One p ms = Ok 0
jitter_at Two p ms = number_at p (codes "jitter_us") 0 GREATEST_JITTER_US ms

-- a stream of the last bus
unfoldable pub read_stream : Written → Data → Reading Written
read_stream d v = do
  ms ← table_of (next_stream d) v
  k ← keyed (next_stream d) (stream_keys d.version) ms
  name ← name_at (next_stream d) (codes "name") ms
  label ← label_at (next_stream d) (codes "label") ms
  equipment ← equipment_at (next_stream d) (codes "equipment") ms
  sdi ← stream_sdi_at (next_stream d) (codes "sdi") ms
  jitter_us ← jitter_at d.version (next_stream d) ms
  Ok (and_stream d (record { bus = length d.buses - 1; name = name; label = label; equipment = equipment; sdi = sdi; jitter_us = jitter_us }))

-- the keys of a bus, by the version
abbrev pub bus_keys : Version → List (List ℕ)
bus_keys One = codes "name" ∷ codes "speed" ∷ codes "queue" ∷ codes "stream" ∷ []
bus_keys Two = codes "name" ∷ codes "speed" ∷ codes "queue" ∷ codes "police" ∷ codes "stream" ∷ []

-- whether a bus refuses early words; in version 1 none does
abbrev pub police_at : Version → TablePlace → Members → Reading Bool
police_at One p ms = Ok false
police_at Two p ms = bool_at p (codes "police") ms

-- a bus and its streams
unfoldable pub read_bus : Written → Data → Reading Written
read_bus d v = do
  ms ← table_of (next_bus d) v
  k ← keyed (next_bus d) (bus_keys d.version) ms
  name ← name_at (next_bus d) (codes "name") ms
  speed ← speed_at (next_bus d) (codes "speed") ms
  queue ← number_at (next_bus d) (codes "queue") 1 GREATEST_QUEUE ms
  police ← police_at d.version (next_bus d) ms
  streams ← tables_at (next_bus d) (codes "stream") 1 MOST_MEMBERS ms
  each_table read_stream (and_bus d (record { name = name; speed = speed; queue = queue; police = police })) streams

-- ---- layouts: the frame of an output, the stale times and the offsets of its labels; where they are open, what else a text may say otherwise

-- the keys of a table, all of them where the layout is wanted; else those that may stand there, and those that must
abbrev pub keyed_by : Layout → TablePlace → (all may must : List (List ℕ)) → Members → Reading (Unit {0})
keyed_by Wanted p all may must ms = keyed p all ms
keyed_by Open p all may must ms = known p may ms >>= (λ k. present p must ms)

-- the number at a key of the layout; where that is open nothing there is looked at, and the least stands for it
abbrev pub laid_number : Layout → TablePlace → List ℕ → (low high : ℕ) → Members → Reading ℕ
laid_number Wanted p key low high ms = number_at p key low high ms
laid_number Open p key low high ms = Ok low

-- the offsets of a label; where the layout is open there are none
abbrev pub laid_offsets : Layout → TablePlace → Members → Reading (List ℕ)
laid_offsets Wanted p ms = offsets_at p (codes "offsets") 1 MOST_OFFSETS ms
laid_offsets Open p ms = Ok []

-- whether a key is in the table
abbrev pub has_key : List ℕ → Members → Bool
has_key key ms = is_some (get_member key ms)

-- the number at a key that may be absent, where this one stands for it
abbrev pub number_or : ℕ → TablePlace → List ℕ → (low high : ℕ) → Members → Reading ℕ
number_or usual p key low high ms = if has_key key ms then number_at p key low high ms else Ok usual

-- ---- routers

-- the keys of a router
abbrev pub router_keys : List (List ℕ)
router_keys = codes "name" ∷ codes "steps" ∷ codes "within" ∷ codes "most" ∷ codes "visits" ∷ []

-- those that may stand where the layout is open
abbrev pub router_keys_may : List (List ℕ)
router_keys_may = codes "name" ∷ codes "steps" ∷ codes "within" ∷ codes "most" ∷ codes "visits" ∷ codes "looks" ∷ []

-- and those that must
abbrev pub router_keys_must : List (List ℕ)
router_keys_must = codes "name" ∷ codes "steps" ∷ codes "within" ∷ codes "visits" ∷ []

-- the most steps of a router in one tick where a text does not say them: twice those that it surely makes, 20 or more
abbrev pub most_of : (steps : ℕ) → ℕ
most_of steps = if nat_le steps 10 then 20 else if nat_le 500 steps then MOST_STEPS else 2 * steps

-- the most steps of a router in one tick; where the layout is open the key may be absent
abbrev pub laid_most : Layout → (steps : ℕ) → TablePlace → Members → Reading ℕ
laid_most Wanted steps p ms = number_at p (codes "most") 1 MOST_STEPS ms
laid_most Open steps p ms = number_or (most_of steps) p (codes "most") 1 MOST_STEPS ms

-- the names of a list, each so many times in a row
abbrev pub repeated : (looks : ℕ) → List (List ℕ) → List (List ℕ)
repeated looks [] = []
repeated looks (x ∷ xs) = replicate looks x ++ repeated looks xs

-- as many visits as there may be, each name so many times in a row
abbrev pub visits_of : TablePlace → (looks : ℕ) → List (List ℕ) → Reading (List (List ℕ))
visits_of p looks names = wanted p CountOutOfRange (nat_le (looks * length names) MOST_VISITS) >>= (λ k. Ok (repeated looks names))

-- the visits of a router, in their order; where the layout is open each stands for so many in a row as `looks` says, or for one
abbrev pub laid_visits : Layout → TablePlace → Members → Reading (List (List ℕ))
laid_visits Wanted p ms = names_at p (codes "visits") 1 MOST_VISITS ms
laid_visits Open p ms = names_at p (codes "visits") 1 MOST_VISITS ms >>= (λ names. number_or 1 p (codes "looks") 1 MOST_VISITS ms >>= (λ looks. visits_of p looks names))

-- a router, after what was read before it
unfoldable pub read_router : Layout → Written → Data → Reading Written
read_router y d v = do
  ms ← table_of (next_router d) v
  k ← keyed_by y (next_router d) router_keys router_keys_may router_keys_must ms
  name ← name_at (next_router d) (codes "name") ms
  steps ← number_at (next_router d) (codes "steps") 1 MOST_STEPS ms
  within ← number_at (next_router d) (codes "within") 1 LONGEST_WITHIN ms
  most ← laid_most y steps (next_router d) ms
  visits ← laid_visits y (next_router d) ms
  Ok (and_router d (record { name = name; steps = steps; within = within; most = most; visits = visits }))

-- ---- outputs, each followed by its labels

-- the keys of a label
abbrev pub label_keys : List (List ℕ)
label_keys = codes "name" ∷ codes "label" ∷ codes "equipment" ∷ codes "sdi" ∷ codes "sources" ∷ codes "stale" ∷ codes "age" ∷ codes "offsets" ∷ []

-- those that may stand where the layout is open
abbrev pub label_keys_may : List (List ℕ)
label_keys_may =
    codes "name" ∷ codes "label" ∷ codes "equipment" ∷ codes "sdi" ∷ codes "sources" ∷ codes "stale" ∷ codes "age" ∷ codes "max_age_us" ∷ codes "offsets" ∷ []

-- and those that must
abbrev pub label_keys_must : List (List ℕ)
label_keys_must = codes "name" ∷ codes "label" ∷ codes "equipment" ∷ codes "sdi" ∷ codes "sources" ∷ []

-- one of two keys is in the table, else T03, and not both, else T04
abbrev pub one_key : TablePlace → (one other : Bool) → Reading (Unit {0})
one_key p true true = refused p KeyUnknown
one_key p false false = refused p KeyAbsent
one_key p true false = Ok tt
one_key p false true = Ok tt

-- where the layout is open the limit on the age stands at `age` or at `max_age_us`
abbrev pub aged_by : Layout → TablePlace → Members → Reading (Unit {0})
aged_by Wanted p ms = Ok tt
aged_by Open p ms = one_key p (has_key (codes "age") ms) (has_key (codes "max_age_us") ms)

-- an age of at least one tick
abbrev pub whole_age : TablePlace → (age : ℕ) → Reading ℕ
whole_age p age = wanted p NumberOutOfRange (nat_le 1 age) >>= (λ k. Ok age)

-- the age in ticks below which data are younger than `max_age_us` says
abbrev pub age_in_us : (tick_us : ℕ) → TablePlace → Members → Reading ℕ
age_in_us tick_us p ms = number_at p (codes "max_age_us") 1 LONGEST_INTERVAL_US ms >>= (λ us. whole_age p (out_maximum us tick_us))

-- the limit on the age of a label in ticks; where the layout is open it may stand there in microseconds
abbrev pub laid_age : Layout → (tick_us : ℕ) → TablePlace → Members → Reading ℕ
laid_age Wanted tick_us p ms = number_at p (codes "age") 1 GREATEST_AGE ms
laid_age Open tick_us p ms = if has_key (codes "max_age_us") ms then age_in_us tick_us p ms else number_at p (codes "age") 1 GREATEST_AGE ms

-- a label of the last output
unfoldable pub read_label : Layout → Written → Data → Reading Written
read_label y d v = do
  ms ← table_of (next_label d) v
  k ← keyed_by y (next_label d) label_keys label_keys_may label_keys_must ms
  a ← aged_by y (next_label d) ms
  name ← name_at (next_label d) (codes "name") ms
  label ← label_at (next_label d) (codes "label") ms
  equipment ← equipment_at (next_label d) (codes "equipment") ms
  sdi ← sdi_at (next_label d) (codes "sdi") ms
  sources ← names_at (next_label d) (codes "sources") 1 MOST_SOURCES ms
  stale ← laid_number y (next_label d) (codes "stale") 1 LONGEST_STALE ms
  age ← laid_age y d.tick_us (next_label d) ms
  offsets ← laid_offsets y (next_label d) ms
  Ok (and_label d (record { output = length d.outputs - 1; name = name; label = label; equipment = equipment; sdi = sdi; sources = sources; stale = stale; age = age; offsets = offsets }))

-- those that must stand where the layout is open
abbrev pub output_keys_must : List (List ℕ)
output_keys_must = codes "name" ∷ codes "speed" ∷ codes "steps" ∷ codes "within" ∷ codes "label" ∷ []

-- the keys of an output
abbrev pub output_keys : List (List ℕ)
output_keys = codes "name" ∷ codes "speed" ∷ codes "steps" ∷ codes "within" ∷ codes "frame" ∷ codes "label" ∷ []

-- an output and its labels
unfoldable pub read_output : Layout → Written → Data → Reading Written
read_output y d v = do
  ms ← table_of (next_output d) v
  k ← keyed_by y (next_output d) output_keys output_keys output_keys_must ms
  name ← name_at (next_output d) (codes "name") ms
  speed ← speed_at (next_output d) (codes "speed") ms
  steps ← number_at (next_output d) (codes "steps") 1 MOST_STEPS ms
  within ← number_at (next_output d) (codes "within") 1 LONGEST_WITHIN ms
  frame ← laid_number y (next_output d) (codes "frame") 1 LONGEST_FRAME ms
  labels ← tables_at (next_output d) (codes "label") 1 MOST_MEMBERS ms
  each_table (read_label y) (and_output d (record { name = name; speed = speed; steps = steps; within = within; frame = frame })) labels

-- ---- the whole text

-- the place of the top
abbrev pub top : TablePlace
top = place Top 0

-- the version of this number
abbrev pub version_in : Option ℤ → Option Version
version_in None = None
version_in (Some (negsuc n)) = None
version_in (Some (pos n)) = if n == 1 then Some One else if n == 2 then Some Two else None

-- the number 1 or 2 at `version`, else T02
abbrev pub version_of : TablePlace → Members → Reading Version
version_of p ms = found p VersionUnknown (version_in (option_and_then as_integer (get_member (codes "version") ms)))

-- the keys that the top must have
abbrev pub wanted_keys : List (List ℕ)
wanted_keys = codes "version" ∷ codes "tick_us" ∷ []

-- the keys that it may have
abbrev pub top_keys : List (List ℕ)
top_keys = codes "version" ∷ codes "tick_us" ∷ codes "parameter" ∷ codes "bus" ∷ codes "router" ∷ codes "output" ∷ []

-- the length of a tick, where the top's keys are right
unfoldable pub tick_of : TablePlace → Members → Reading ℕ
tick_of t ms = do
  k ← known t top_keys ms
  p ← present t wanted_keys ms
  number_at t (codes "tick_us") SHORTEST_TICK LONGEST_TICK ms

-- the lists of tables at the top
pub record TopItems : Type 0 where
  pub parameters : Items
  pub buses : Items
  pub routers : Items
  pub outputs : Items

-- of at most so many tables, before these are looked at
unfoldable pub lists_of : TablePlace → Members → Reading TopItems
lists_of t ms = do
  parameters ← optional_at t (codes "parameter") MOST_PARAMETERS ms
  buses ← optional_at t (codes "bus") MOST_BUSES ms
  routers ← optional_at t (codes "router") MOST_ROUTERS ms
  outputs ← optional_at t (codes "output") MOST_OUTPUTS ms
  Ok (record { parameters = parameters; buses = buses; routers = routers; outputs = outputs })

-- and then all of them
unfoldable pub members_of : Layout → Written → TopItems → Reading Written
members_of y d lists = do
  a ← each_table read_parameter d lists.parameters
  b ← each_table read_bus a lists.buses
  c ← each_table (read_router y) b lists.routers
  each_table (read_output y) c lists.outputs

-- the tables that a document says
unfoldable pub tables_in : Layout → Members → Reading Written
tables_in y ms = do
  version ← version_of top ms
  tick_us ← tick_of top ms
  lists ← lists_of top ms
  members_of y (nothing_written version tick_us) lists

-- the TOML document that a text is: within its limit, in UTF-8, by the reading of `toml`, else T01
unfoldable pub document_of : List ℕ → Reading Members
document_of text = if nat_le (length text) TEXT_LIMIT && is_utf8 text then found top NotToml (parse_document text) else refused top NotToml

-- the tables of a text
abbrev pub tables_of : List ℕ → Reading Written
tables_of text = document_of text >>= tables_in Wanted

-- the tables of a text in which no layout need stand, and none is looked at; the most steps of a router, how often it looks in a row and ages may be said otherwise
abbrev pub unlaid_tables_of : List ℕ → Reading Written
unlaid_tables_of text = document_of text >>= tables_in Open
