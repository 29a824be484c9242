-- When a certificate is accepted.
use Rattle.std.specs.Prelude.{◌≡◌, ℕ, ◌+◌, ◌≤◌, ◌<◌, List, length, map, slice_index}
use Rattle.std.specs.List.{All}
use Rattle.dc_busy.specs.BusyWindow.{Closes, BacklogBounded, DelayBounded}
use Rattle.dc_busy.specs.declared.limits.TheConstants.{LONGEST_WINDOW}
use Rattle.dc_cert.specs.Bounds.{InputBound, OutputBound, CertificateRows, input_bound, output_bound, numbers_of}
use Rattle.dc_cert.specs.NamedRows.{NamedRows}
use Rattle.dc_document.specs.Names.{text_of}
use Rattle.dc_tables.specs.TableRows.{TableRows, bus_row, stream_row, label_row, bus_cap, bus_floor, output_cap, output_floor}
use Rattle.dc_transmit.specs.Schedule.{schedule_of, label_gaps}

-- ---- one queue, by the most that comes (cap) and the fewest that are taken (floor) in so many ticks

-- the window is in range, and a busy stretch ends within it
pub record WindowCloses (cap floor : ℕ → ℕ) (window : ℕ) : Type 0 where
  pub some : 1 ≤ window
  pub most : window ≤ LONGEST_WINDOW
  pub closes : Closes cap floor window

-- no more than the backlog wait at any place of the window, and the queue has room for them
pub record BacklogFits (cap floor : ℕ → ℕ) (window backlog queue : ℕ) : Type 0 where
  pub bounded : BacklogBounded cap floor window backlog
  pub fits : backlog ≤ queue

-- the delay is in range, and none waits longer from any place of the window on
pub record DelayHolds (cap floor : ℕ → ℕ) (window delay : ℕ) : Type 0 where
  pub short : delay ≤ LONGEST_WINDOW
  pub bounded : DelayBounded cap floor window delay

-- ---- one input, output, label

-- the window of an input bus closes, its backlog fits its queue, and its delay holds
pub record AcceptsInput (t : TableRows) (b : ℕ) (c : InputBound) : Type 0 where
  pub window : WindowCloses (bus_cap t b) (bus_floor t b) c.window
  pub backlog : BacklogFits (bus_cap t b) (bus_floor t b) c.window c.backlog (bus_row t b).queue
  pub delay : DelayHolds (bus_cap t b) (bus_floor t b) c.window c.delay

-- the window of an output closes, and its delay holds
pub record AcceptsOutput (t : TableRows) (o : ℕ) (c : OutputBound) : Type 0 where
  pub window : WindowCloses (output_cap t o) (output_floor t o) c.window
  pub delay : DelayHolds (output_cap t o) (output_floor t o) c.window c.delay

-- the delay of the label's output, in ticks, as the certificate says it
abbrev pub label_delay : TableRows → CertificateRows → ℕ → ℕ
label_delay t c x = (output_bound c (label_row t x).output).delay

-- the delay of the bus on which a source comes, in ticks, as the certificate says it
abbrev pub source_delay : TableRows → CertificateRows → ℕ → ℕ
source_delay t c s = (input_bound c (stream_row t s).bus).delay

-- the gaps between neighbouring entries of the label, round its output's frame
abbrev pub gaps_of : TableRows → ℕ → List ℕ
gaps_of t x = label_gaps (schedule_of t (label_row t x).output) x

-- the gaps between the label's entries keep its intervals, however its output delays them
pub record GapsFit (t : TableRows) (x : ℕ) (c : CertificateRows) : Type 0 where
  pub not_soon : All (λ g. (label_row t x).minimum + label_delay t c x ≤ g) (gaps_of t x)
  pub not_late : All (λ g. g + label_delay t c x ≤ (label_row t x).maximum) (gaps_of t x)

-- the age is long enough for the oldest word that is still copied, and within the label's limit
pub record AgeHolds (t : TableRows) (x : ℕ) (c : CertificateRows) : Type 0 where
  pub aged : All (λ s. (label_row t x).stale + source_delay t c s ≤ slice_index c.ages x) (label_row t x).sources
  pub limited : slice_index c.ages x ≤ (label_row t x).age_limit

-- a source that keeps sending is never stale
abbrev pub SourcesStayFresh : TableRows → ℕ → CertificateRows → Type 0
SourcesStayFresh t x c = All (λ s. source_delay t c s + (stream_row t s).maximum ≤ (label_row t x).stale) (label_row t x).sources

-- the gaps of a label fit, its age holds, and its sources stay fresh
pub record AcceptsLabel (t : TableRows) (x : ℕ) (c : CertificateRows) : Type 0 where
  pub gaps : GapsFit t x c
  pub age : AgeHolds t x c
  pub fresh : SourcesStayFresh t x c

-- ---- the whole certificate

-- its numbers are accepted, job by job
pub record AcceptsNumbers (t : TableRows) (c : CertificateRows) : Type 0 where
  pub inputs : (b : ℕ) → b < length t.buses → AcceptsInput t b (input_bound c b)
  pub outputs : (o : ℕ) → o < length t.outputs → AcceptsOutput t o (output_bound c o)
  pub labels : (x : ℕ) → x < length t.labels → AcceptsLabel t x c

-- these names are those of so many rows of the tables, once each and in their order
pub record IsNamed (count : ℕ) (names keys : List (List ℕ)) : Type 0 where
  pub sized : length names ≡ count
  pub same : names ≡ map text_of keys

-- the certificate's lists are of the tables' buses, outputs and labels
pub record AreNamed (t : TableRows) (claims : NamedRows) : Type 0 where
  pub inputs : IsNamed (length t.buses) (map (λ i. i.bus) claims.inputs) t.names.buses
  pub outputs : IsNamed (length t.outputs) (map (λ o. o.output) claims.outputs) t.names.outputs
  pub labels : IsNamed (length t.labels) (map (λ l. l.label) claims.labels) t.names.labels

-- the certificate is accepted for the tables
pub record Accepts (t : TableRows) (claims : NamedRows) : Type 0 where
  pub named : AreNamed t claims
  pub numbers : AcceptsNumbers t (numbers_of claims)
