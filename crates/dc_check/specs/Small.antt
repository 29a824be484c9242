-- Small tables, a certificate for them and a run: what shows that the certification theorem speaks of something.
use Rattle.std.specs.Prelude.{false, ◌≡◌, ℕ, None, Some, List, [], ◌∷◌, ◌++◌}
use Rattle.dc_cert.specs.NamedRows.{NamedRows}
use Rattle.dc_event.specs.Choice.{chosen_source}
use Rattle.dc_event.specs.Emissions.{emission}
use Rattle.dc_event.specs.declared.event.Event.{Event}
use Rattle.dc_event.specs.declared.event.Event.TheVariants.{Tick, Arrive, Route, Send}
use Rattle.dc_document.specs.Names.{padded}
use Rattle.dc_tables.specs.TableNames.{TableNames}
use Rattle.dc_tables.specs.TableRows.{TableRows}
use Rattle.dc_tables.specs.declared.rows.Stream.{Stream}
use Rattle.dc_tables.specs.declared.rows.Router.{Router}
use Rattle.dc_tables.specs.declared.rows.Output.{Output}
use Rattle.dc_tables.specs.declared.rows.OutputLabel.{OutputLabel}
use Rattle.dc_word.specs.declared.format.Format.TheVariants.{Bnr}

-- the names A; A-203 and A-204; R1; O; x
abbrev pub small_names : TableNames
small_names = record {
  buses = padded (65 ∷ []) ∷ [];
  streams = padded (65 ∷ 45 ∷ 50 ∷ 48 ∷ 51 ∷ []) ∷ padded (65 ∷ 45 ∷ 50 ∷ 48 ∷ 52 ∷ []) ∷ [];
  routers = padded (82 ∷ 49 ∷ []) ∷ [];
  outputs = padded (79 ∷ []) ∷ [];
  labels = padded (120 ∷ []) ∷ [];
}

-- a stream of bus A with this label, at least 10 ticks of a millisecond between its words
abbrev pub small_stream : ℕ → Stream
small_stream label = record { bus = 0; label = label; sdi = None; format = Bnr; minimum = 10; maximum = 20; jitter = 0 }

-- router R, which visits bus A in every tick
abbrev pub small_router : Router
small_router = record { steps = 1; within = 1; most = 2; visits = 0 ∷ [] }

-- output O, which sends label x every 15 ticks
abbrev pub small_output : Output
small_output = record { steps = 1; within = 2; gap = 1; frame = 15; entries = record { offset = 0; label = 0 } ∷ [] }

-- label x of output O, with the first stream as its source
abbrev pub small_label : OutputLabel
small_label = record { output = 0; label = 131; sdi = 0; format = Bnr; sources = 0 ∷ []; stale = 22; age_limit = 30; minimum = 11; maximum = 19 }

-- bus A brings labels 203 and 204 (octal) to router R; output O sends label x from the first
abbrev pub small_tables : TableRows
small_tables = record {
  tick_us = 1000;
  buses = record { queue = 2; police = false; spacing = 350; first = 0; streams = 2; router = 0 } ∷ [];
  streams = small_stream 131 ∷ small_stream 132 ∷ [];
  routers = small_router ∷ [];
  outputs = small_output ∷ [];
  labels = small_label ∷ [];
  names = small_names;
}

-- their certificate, with this age of label x
abbrev pub small_claims : ℕ → NamedRows
small_claims age = record {
  inputs = record { bus = 65 ∷ []; window = 3; backlog = 2; delay = 2 } ∷ [];
  outputs = record { output = 79 ∷ []; window = 3; delay = 2 } ∷ [];
  labels = record { label = 120 ∷ []; age = age } ∷ [];
}

-- a word of label 203 comes, is routed and is sent in the first tick
abbrev pub small_run : List Event
small_run = Arrive 0x600000C1 0 ∷ Route 0 ∷ Send 0 ∷ Tick ∷ []

-- at a step of the run a label leaves that copies a word which came in
pub record SendsCopy (t : TableRows) (run : List Event) : Type 0 where
  pub past : List Event
  pub rest : List Event
  pub output : ℕ
  pub label : ℕ
  pub word : ℕ × ℕ
  pub at : run ≡ past ++ (Send output ∷ rest)
  pub leaves : emission t past (Send output) ≡ Some label
  pub copied : chosen_source t label (past ++ Send output ∷ []) ≡ Some word
