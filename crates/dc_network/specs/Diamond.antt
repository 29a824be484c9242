-- A small diamond: one concentrator feeds two, and both feed a fourth. It shows that the theorems on networks speak of something.
use Rattle.std.specs.Prelude.{false, ℕ, zero, suc, None, List, [], ◌∷◌}
use Rattle.dc_document.specs.Names.{padded}
use Rattle.dc_cert.specs.Bounds.{numbers_of}
use Rattle.dc_cert.specs.NamedRows.{NamedRows}
use Rattle.dc_check.specs.Small.{small_tables, small_claims}
use Rattle.dc_tables.specs.TableNames.{TableNames}
use Rattle.dc_tables.specs.TableRows.{TableRows}
use Rattle.dc_tables.specs.declared.rows.Bus.{Bus}
use Rattle.dc_tables.specs.declared.rows.Stream.{Stream}
use Rattle.dc_tables.specs.declared.rows.Router.{Router}
use Rattle.dc_tables.specs.declared.rows.Output.{Output}
use Rattle.dc_tables.specs.declared.rows.OutputLabel.{OutputLabel}
use Rattle.dc_word.specs.declared.format.Format.TheVariants.{Bnr}
use Rattle.dc_event.specs.declared.event.Event.{Event}
use Rattle.dc_event.specs.declared.event.Event.TheVariants.{Tick, Arrive, Route, Send}
use Rattle.dc_spans.specs.Spans.{exact_clock}
use Rattle.dc_chain.specs.SmallChain.{small_intervals, small_timed_run}
use Rattle.dc_network.specs.Networks.{Member, Connection, Network}
use Rattle.dc_network.specs.JointRuns.{Running}

-- ---- a concentrator with two buses

-- the names A and B; A-203 and B-203; R1; O; x
abbrev pub twin_names : TableNames
twin_names = record {
  buses = padded (65 ∷ []) ∷ padded (66 ∷ []) ∷ [];
  streams = padded (65 ∷ 45 ∷ 50 ∷ 48 ∷ 51 ∷ []) ∷ padded (66 ∷ 45 ∷ 50 ∷ 48 ∷ 51 ∷ []) ∷ [];
  routers = padded (82 ∷ 49 ∷ []) ∷ [];
  outputs = padded (79 ∷ []) ∷ [];
  labels = padded (120 ∷ []) ∷ [];
}

abbrev pub twin_bus : ℕ → Bus
twin_bus b = record { queue = 2; police = false; spacing = 350; first = b; streams = 1; router = 0 }

-- label 203 (octal) on each bus, at least 10 ticks of a millisecond between two words
abbrev pub twin_stream : ℕ → Stream
twin_stream b = record { bus = b; label = 131; sdi = None; format = Bnr; minimum = 10; maximum = 20; jitter = 0 }

-- the router visits both buses in each tick
abbrev pub twin_router : Router
twin_router = record { steps = 2; within = 1; most = 2; visits = 0 ∷ 1 ∷ [] }

abbrev pub twin_output : Output
twin_output = record { steps = 1; within = 2; gap = 1; frame = 15; entries = record { offset = 0; label = 0 } ∷ [] }

-- bus A first, then bus B
abbrev pub twin_label : OutputLabel
twin_label = record { output = 0; label = 131; sdi = 0; format = Bnr; sources = 0 ∷ 1 ∷ []; stale = 22; age_limit = 30; minimum = 11; maximum = 19 }

abbrev pub twin_tables : TableRows
twin_tables = record {
  tick_us = 1000;
  buses = twin_bus 0 ∷ twin_bus 1 ∷ [];
  streams = twin_stream 0 ∷ twin_stream 1 ∷ [];
  routers = twin_router ∷ [];
  outputs = twin_output ∷ [];
  labels = twin_label ∷ [];
  names = twin_names;
}

abbrev pub twin_claims : NamedRows
twin_claims = record {
  inputs = record { bus = 65 ∷ []; window = 3; backlog = 2; delay = 2 } ∷ record { bus = 66 ∷ []; window = 3; backlog = 2; delay = 2 } ∷ [];
  outputs = record { output = 79 ∷ []; window = 3; delay = 2 } ∷ [];
  labels = record { label = 120 ∷ []; age = 24 } ∷ [];
}

-- ---- the diamond

abbrev pub small_member : Member
small_member = record { rows = small_tables; us = small_intervals; ages = (numbers_of (small_claims 24)).ages; longest = 1000 }

abbrev pub twin_member : Member
twin_member = record { rows = twin_tables; us = small_intervals; ages = (numbers_of twin_claims).ages; longest = 1000 }

abbrev pub diamond_member : ℕ → Member
diamond_member zero = small_member
diamond_member (suc zero) = small_member
diamond_member (suc (suc zero)) = small_member
diamond_member (suc (suc (suc i))) = twin_member

-- 700 and 800 microseconds from the first, 700 and 700 to the last, to its buses A and B
abbrev pub diamond_connection : ℕ → Connection
diamond_connection zero = record { from = 0; to = 1; link = record { output = 0; bus = 0; least = 700; most = 700 } }
diamond_connection (suc zero) = record { from = 0; to = 2; link = record { output = 0; bus = 0; least = 800; most = 800 } }
diamond_connection (suc (suc zero)) = record { from = 1; to = 3; link = record { output = 0; bus = 0; least = 700; most = 700 } }
diamond_connection (suc (suc (suc k))) = record { from = 2; to = 3; link = record { output = 0; bus = 1; least = 700; most = 700 } }

abbrev pub diamond : Network
diamond = record { size = 4; member = diamond_member; links = 4; connection = diamond_connection }

abbrev pub diamond_ways : ℕ → ℕ → ℕ
diamond_ways zero x = 25000
diamond_ways (suc zero) x = 50700
diamond_ways (suc (suc zero)) x = 50800
diamond_ways (suc (suc (suc i))) x = 76500

-- ---- a joint run

-- a word comes to each bus, both are routed, and one is sent, in the first tick, which begins at 1400
abbrev pub twin_timed_run : List (ℕ × Event)
twin_timed_run = (1400, Arrive 0x600000C1 0) ∷ (1500, Arrive 0x600000C1 1) ∷ (1500, Route 0) ∷ (1500, Route 0) ∷ (1500, Send 0) ∷ (2400, Tick) ∷ []

-- the clocks begin at 0, 700, 800 and 1400
abbrev pub diamond_runs : ℕ → Running
diamond_runs zero = record { clock = exact_clock 0 1000; run = small_timed_run 0 }
diamond_runs (suc zero) = record { clock = exact_clock 700 1000; run = small_timed_run 700 }
diamond_runs (suc (suc zero)) = record { clock = exact_clock 800 1000; run = small_timed_run 800 }
diamond_runs (suc (suc (suc i))) = record { clock = exact_clock 1400 1000; run = twin_timed_run }
