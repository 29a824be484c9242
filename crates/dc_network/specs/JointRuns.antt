-- Joint runs of a network: each concentrator by a clock of its own.
use Rattle.std.specs.Prelude.{◌≡◌, ℕ, ◌+◌, ◌<◌, ◌≤◌, ◌⊎◌, false, List, length}
use Rattle.std.specs.List.{Contains}
use Rattle.dc_bound.specs.Window.{HoldAtMost}
use Rattle.dc_bound.specs.Early.{HoldsCap, jitter_cap}
use Rattle.dc_word.specs.Word.{data_of, ssm_of}
use Rattle.dc_tables.specs.TableRows.{TableRows, AreValid, stream_row, is_policed}
use Rattle.dc_cert.specs.Bounds.{numbers_of}
use Rattle.dc_cert.specs.NamedRows.{NamedRows}
use Rattle.dc_check.specs.Accepts.{Accepts}
use Rattle.dc_event.specs.Admissible.{IsRun, KeepsBudgets}
use Rattle.dc_event.specs.declared.event.Event.{Event}
use Rattle.dc_spans.specs.Spans.{Clock, KeepsPace}
use Rattle.dc_time.specs.Timed.{events, IsTimed}
use Rattle.dc_time.specs.Intervals.{FitsClock}
use Rattle.dc_time.specs.Sources.{stream_times, bus_times}
use Rattle.dc_chain.specs.Concentrators.{Concentrator, IsLinked, sends_of, arrivals_at}
use Rattle.dc_chain.specs.Chains.{IsNoData}
use Rattle.dc_network.specs.Networks.{Member, Network, IsFed, IsOrder, Fits}

-- ---- what is judged

-- a certificate with these ages is accepted for the tables
pub record IsAccepted (n : Network) (i : ℕ) : Type 0 where
  pub valid : AreValid (n.member i).rows
  pub claims : NamedRows
  pub accepted : Accepts (n.member i).rows claims
  pub ages : (n.member i).ages ≡ (numbers_of claims).ages

-- Each concentrator has such a certificate, each link leads from one of them to one and fits, and no link is on a ring
pub record IsSound (n : Network) : Type 0 where
  pub certified : (i : ℕ) → i < n.size → IsAccepted n i
  pub ends : (k : ℕ) → k < n.links → ((n.connection k).from < n.size) × ((n.connection k).to < n.size)
  pub fit : (k : ℕ) → k < n.links → Fits (n.member (n.connection k).from) (n.member (n.connection k).to) (n.connection k).link
  pub place : ℕ → ℕ
  pub order : IsOrder n place

-- ---- a joint run

-- how a concentrator runs: by its clock, and as its timed run
pub record Running : Type 0 where
  pub clock : Clock
  pub run : List (ℕ × Event)

-- the concentrator of this number in a joint run
abbrev pub running : Network → (ℕ → Running) → ℕ → Concentrator
running n runs i = record { rows = (n.member i).rows; us = (n.member i).us; ages = (n.member i).ages; clock = (runs i).clock; run = (runs i).run }

-- the clock keeps its pace, its ticks are no longer than the longest, and the intervals that the concentrator keeps fit it
pub record IsClockOf (m : Member) (clock : Clock) : Type 0 where
  pub paced : KeepsPace clock
  pub longest : clock.longest ≤ m.longest
  pub fits : FitsClock m.rows m.us clock

-- each has such a clock, of its own: nobody sets one by another
abbrev pub HaveClocks : Network → (ℕ → Running) → Type 0
HaveClocks n runs = (i : ℕ) → i < n.size → IsClockOf (n.member i) (runs i).clock

-- it is a run of the tables, timed by the clock, whose routers and outputs keep their budgets
pub record IsTimely (t : TableRows) (r : Running) : Type 0 where
  pub timing : IsTimed r.clock r.run
  pub numbers : IsRun t (events r.run)
  pub budgets : KeepsBudgets t (events r.run)

-- What is asked of a joint run. Each concentrator's run is timely. Each link brings words that were sent to it, and on the bus that it feeds nothing else comes
-- in. The streams of a bus that no link feeds keep their intervals; and the words on any bus are its spacing apart, links' words too. Nothing is asked of a policed bus
pub record IsJointRun (n : Network) (runs : ℕ → Running) : Type 0 where
  pub timely : (i : ℕ) → i < n.size → IsTimely (n.member i).rows (runs i)
  pub carried : (k : ℕ) → k < n.links → IsLinked (running n runs (n.connection k).from) (n.connection k).link (running n runs (n.connection k).to)
  pub streams_rest : (i s : ℕ) → i < n.size → s < length (n.member i).rows.streams → is_policed (n.member i).rows (stream_row (n.member i).rows s).bus ≡ false
      → (IsFed n i (stream_row (n.member i).rows s).bus → ⊥)
      → HoldsCap (jitter_cap ((n.member i).us.stream_least s) ((n.member i).us.stream_jitter s)) (stream_times (n.member i).rows s (runs i).run)
  pub wires_rest : (i b : ℕ) → i < n.size → b < length (n.member i).rows.buses → is_policed (n.member i).rows b ≡ false → HoldAtMost 1 ((n.member i).us.spacing b) (bus_times (n.member i).rows b (runs i).run)

-- ---- where words come from

-- the word came at that time to a bus that no link feeds
pub record Enters (n : Network) (runs : ℕ → Running) (time word : ℕ) : Type 0 where
  pub concentrator : ℕ
  pub there : concentrator < n.size
  pub stream : ℕ
  pub free : IsFed n concentrator (stream_row (n.member concentrator).rows stream).bus → ⊥
  pub came : Contains (arrivals_at (running n runs concentrator) (stream_row (n.member concentrator).rows stream).bus) (time, (stream, word))

-- a word that leaves at `time` has the data and the SSM of one that entered before, less than so long ago
pub record HasEntered (n : Network) (runs : ℕ → Running) (time word limit came origin : ℕ) : Type 0 where
  pub enters : Enters n runs came origin
  pub same_data : data_of word ≡ data_of origin
  pub same_ssm : ssm_of word ≡ ssm_of origin
  pub before : came ≤ time
  pub young : time < came + limit

-- it is no computed data, or has entered so
abbrev pub IsRecent : Network → (ℕ → Running) → (time word limit : ℕ) → Type 0
IsRecent n runs time word limit = IsNoData word ⊎ ((came : ℕ) × (origin : ℕ) × HasEntered n runs time word limit came origin)

-- each word that leaves the concentrator is recent by the way of its label
abbrev pub SendsRecent : Network → (ℕ → Running) → (ways : ℕ → ℕ → ℕ) → ℕ → Type 0
SendsRecent n runs ways i = (o time x word : ℕ) → Contains (sends_of (running n runs i) o) (time, (x, word)) → IsRecent n runs time word (ways i x)
