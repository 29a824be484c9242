-- Concentrators in time, each with a clock of its own, and the links between them.
use Rattle.std.specs.Prelude.{◌≡◌, ◌≢◌, ℕ, ◌+◌, ◌-◌, ◌<◌, ◌≤◌, ◌==◌, cond, false, Option, Some, None, option_map, List, [], ◌∷◌, ◌++◌, length}
use Rattle.std.specs.List.{Contains}
use Rattle.dc_bound.specs.Window.{HoldAtMost}
use Rattle.dc_bound.specs.Early.{HoldsCap, jitter_cap}
use Rattle.dc_word.specs.Word.{label_of, sdi_of}
use Rattle.dc_spans.specs.Spans.{Clock, KeepsPace}
use Rattle.dc_chain.specs.Carrying.{IsCarried, Carries}
use Rattle.dc_tables.specs.Declares.{stream_of}
use Rattle.dc_tables.specs.TableRows.{TableRows, AreValid, stream_row, label_row, is_policed}
use Rattle.dc_event.specs.Admissible.{IsRun}
use Rattle.dc_event.specs.Choice.{chosen}
use Rattle.dc_event.specs.Emissions.{emission}
use Rattle.dc_event.specs.declared.event.Event.{Event}
use Rattle.dc_event.specs.declared.event.Event.TheVariants.{Tick, Arrive, Route, Send}
use Rattle.dc_time.specs.Timed.{events, IsTimed, timed}
use Rattle.dc_time.specs.Intervals.{Intervals, FitsClock}
use Rattle.dc_time.specs.Sources.{brought, stream_times, bus_times}
use Rattle.dc_time.specs.Claims.{ClaimsHoldInTime}

-- a concentrator: its tables, the intervals in microseconds that it keeps, the ages of its certificate, its clock, and its timed run
pub record Concentrator : Type 0 where
  pub rows : TableRows
  pub us : Intervals
  pub ages : List ℕ
  pub clock : Clock
  pub run : List (ℕ × Event)

-- its tables are valid, its clock keeps its pace, its intervals fit both, and its run is timed by the clock
pub record RunsInTime (c : Concentrator) : Type 0 where
  pub valid : AreValid c.rows
  pub paced : KeepsPace c.clock
  pub fits : FitsClock c.rows c.us c.clock
  pub timing : IsTimed c.clock c.run
  pub numbers : IsRun c.rows (events c.run)

-- its claims hold in microseconds
abbrev pub KeepsClaims : Concentrator → Type 0
KeepsClaims c = ClaimsHoldInTime c.rows c.us c.ages c.clock c.run

-- what the event sends from the output: the number of the label, and the word
abbrev pub sent_word : TableRows → ℕ → List Event → Event → Option (ℕ × ℕ)
sent_word t o past Tick = None
sent_word t o past (Arrive w b) = None
sent_word t o past (Route r) = None
sent_word t o past (Send q) = cond (q == o) (option_map (λ x. (x, chosen t x (past ++ Send q ∷ []))) (emission t past (Send q))) None

-- what an output sent, as (time, (number of the label, word)); what came to a bus, as (time, (number of the stream, word))
abbrev pub sends_of : Concentrator → ℕ → List (ℕ × (ℕ × ℕ))
sends_of c o = timed (sent_word c.rows o) c.run

abbrev pub arrivals_at : Concentrator → ℕ → List (ℕ × (ℕ × ℕ))
arrivals_at c b = timed (brought c.rows b) c.run

-- ---- a link between two

-- a link from an output to a bus, and its least and greatest latency in microseconds
pub record Link : Type 0 where
  pub output : ℕ
  pub bus : ℕ
  pub least : ℕ
  pub most : ℕ

-- what comes to the bus was sent by the output; words may be lost on the way
abbrev pub IsLinked : Concentrator → Link → Concentrator → Type 0
IsLinked from link to = Carries link.least link.most (sends_of from link.output) (arrivals_at to link.bus)

-- the words of the label of the output are of the stream of the bus; w is one of them
pub record Feeds (from to : TableRows) (link : Link) (x s w : ℕ) : Type 0 where
  pub there : x < length from.labels
  pub on_output : (label_row from x).output ≡ link.output
  pub labelled : label_of w ≡ (label_row from x).label
  pub by_sdi : sdi_of w ≡ (label_row from x).sdi
  pub declared : stream_of to link.bus w ≡ Some s

-- One label at most feeds each stream, and its least interval is no less than the stream's and what of the latency's variation
-- the stream's jitter does not cover
pub record LinkFits (from : Concentrator) (link : Link) (to : Concentrator) : Type 0 where
  pub alone : (x y s w v : ℕ) → Feeds from.rows to.rows link x s w → Feeds from.rows to.rows link y s v → x ≡ y
  pub spaced : (x s w : ℕ) → Feeds from.rows to.rows link x s w → to.us.stream_least s + ((link.most - link.least) - to.us.stream_jitter s) ≤ from.us.label_least x

-- what is still asked of the sources: nothing of the streams of this bus, but that two words on its wire are its spacing apart
pub record KeepsOtherSources (c : Concentrator) (b : ℕ) : Type 0 where
  pub streams_rest : (s : ℕ) → s < length c.rows.streams → is_policed c.rows (stream_row c.rows s).bus ≡ false → (stream_row c.rows s).bus ≢ b
      → HoldsCap (jitter_cap (c.us.stream_least s) (c.us.stream_jitter s)) (stream_times c.rows s c.run)
  pub wires_rest : (b : ℕ) → b < length c.rows.buses → is_policed c.rows b ≡ false → HoldAtMost 1 (c.us.spacing b) (bus_times c.rows b c.run)

-- ---- a link that loses nothing

-- each word that was sent comes in, where the run at the link's end goes on long enough
abbrev pub Delivers : Concentrator → Link → Concentrator → Type 0
Delivers from link to = (e : ℕ × (ℕ × ℕ)) → Contains (sends_of from link.output) e → (later : ℕ × Event) → Contains to.run later → e.0 + link.most ≤ later.0
    → (a : ℕ × (ℕ × ℕ)) × Contains (arrivals_at to link.bus) a × IsCarried link.least link.most e a

-- each word of the label of the link's output is of the stream of its bus
pub record FeedsAll (from to : TableRows) (link : Link) (x s : ℕ) : Type 0 where
  pub there : x < length from.labels
  pub on_output : (label_row from x).output ≡ link.output
  pub there_too : s < length to.streams
  pub on_bus : (stream_row to s).bus ≡ link.bus
  pub declared : (w : ℕ) → label_of w ≡ (label_row from x).label → sdi_of w ≡ (label_row from x).sdi → stream_of to link.bus w ≡ Some s
