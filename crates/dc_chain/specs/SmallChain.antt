-- Two small concentrators in a row: what shows that the theorems on chains speak of something.
use Rattle.std.specs.Prelude.{ℕ, ◌+◌, List, [], ◌∷◌}
use Rattle.dc_cert.specs.Bounds.{numbers_of}
use Rattle.dc_check.specs.Small.{small_tables, small_claims}
use Rattle.dc_event.specs.declared.event.Event.{Event}
use Rattle.dc_event.specs.declared.event.Event.TheVariants.{Tick, Arrive, Route, Send}
use Rattle.dc_spans.specs.Spans.{exact_clock}
use Rattle.dc_time.specs.Intervals.{Intervals}
use Rattle.dc_chain.specs.Concentrators.{Concentrator, Link}
use Rattle.dc_chain.specs.Chains.{Stage}

-- 10 to 20 milliseconds between two words, of streams and labels
abbrev pub small_intervals : Intervals
small_intervals = record {
  spacing = λ _. 350;
  stream_least = λ _. 10000;
  stream_most = λ _. 20000;
  stream_jitter = λ _. 0;
  label_least = λ _. 10000;
  label_most = λ _. 20000;
}

-- a word of label 203 comes, is routed and is sent in the first tick, which begins at `start`
abbrev pub small_timed_run : ℕ → List (ℕ × Event)
small_timed_run start = (start, Arrive 0x600000C1 0) ∷ (start, Route 0) ∷ (start, Send 0) ∷ (start + 1000, Tick) ∷ []

abbrev pub small_concentrator : ℕ → Concentrator
small_concentrator start = record { rows = small_tables; us = small_intervals; ages = (numbers_of (small_claims 24)).ages; clock = exact_clock start 1000; run = small_timed_run start }

-- a link of 700 microseconds from the first, whose clock starts at 0, to the second, whose clock starts at 700
abbrev pub small_link : Link
small_link = record { output = 0; bus = 0; least = 700; most = 700 }

abbrev pub small_stages : List Stage
small_stages = record { from = small_concentrator 0; link = small_link } ∷ []
