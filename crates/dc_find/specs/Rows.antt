-- The rows of the least certificate, one by one.
use Rattle.std.specs.Prelude.{◌≡◌, ℕ, ◌+◌, ◌≤◌, ◌<◌, List, [], length, slice_index_or}
use Rattle.std.specs.List.{All}
use Rattle.dc_busy.specs.BusyWindow.{BacklogBounded}
use Rattle.dc_busy.specs.Least.{IsLeast}
use Rattle.dc_busy.specs.declared.limits.TheConstants.{LONGEST_WINDOW}
use Rattle.dc_cert.specs.Bounds.{InputBound, OutputBound, CertificateRows, input_numbers, output_numbers, numbers_of}
use Rattle.dc_cert.specs.NamedRows.{NamedInput, NamedOutput, NamedLabel}
use Rattle.dc_check.specs.Accepts.{WindowCloses, DelayHolds, AcceptsInput, AcceptsOutput, source_delay}
use Rattle.dc_find.specs.Least.{IsInputAtMost, IsOutputAtMost}
use Rattle.dc_document.specs.Names.{text_of}
use Rattle.dc_tables.specs.TableRows.{TableRows, label_row, bus_cap, bus_floor}

-- P holds of each row and its number
abbrev pub EachAt : {X : Type 0} → (ℕ → X → Type 0) → List X → Type 0
EachAt {X} P xs = (k : ℕ) (d : X) → k < length xs → P k (slice_index_or xs k d)

-- a window that closes and a delay that holds in it, and neither is more than in any window that closes
pub record AreLeastTimes (cap floor : ℕ → ℕ) (window delay : ℕ) : Type 0 where
  pub closes : WindowCloses cap floor window
  pub holds : DelayHolds cap floor window delay
  pub least_window : (w : ℕ) → WindowCloses cap floor w → window ≤ w
  pub least_delay : (w d : ℕ) → WindowCloses cap floor w → DelayHolds cap floor w d → delay ≤ d

-- the least times of the bus, and the most that waits in that window, whether or not its queue has room for it
pub record AreLeastNumbers (t : TableRows) (b : ℕ) (c : InputBound) : Type 0 where
  pub times : AreLeastTimes (bus_cap t b) (bus_floor t b) c.window c.delay
  pub backlog : IsLeast (BacklogBounded (bus_cap t b) (bus_floor t b) c.window) c.backlog

-- accepted of the bus, and at most each that is
pub record IsLeastInput (t : TableRows) (b : ℕ) (c : InputBound) : Type 0 where
  pub accepted : AcceptsInput t b c
  pub least : (other : InputBound) → AcceptsInput t b other → IsInputAtMost c other

-- accepted of the output, and at most each that is
pub record IsLeastOutput (t : TableRows) (o : ℕ) (c : OutputBound) : Type 0 where
  pub accepted : AcceptsOutput t o c
  pub least : (other : OutputBound) → AcceptsOutput t o other → IsOutputAtMost c other

-- the same with the name of its row
pub record IsInputRow (t : TableRows) (b : ℕ) (claim : NamedInput) : Type 0 where
  pub named : claim.bus ≡ text_of (slice_index_or t.names.buses b [])
  pub least : IsLeastInput t b (input_numbers claim)

-- the same of an output with its name
pub record IsOutputRow (t : TableRows) (o : ℕ) (claim : NamedOutput) : Type 0 where
  pub named : claim.output ≡ text_of (slice_index_or t.names.outputs o [])
  pub least : IsLeastOutput t o (output_numbers claim)

-- numbers of inputs alone
abbrev pub inputs_alone : List NamedInput → CertificateRows
inputs_alone inputs = numbers_of (record { inputs = inputs; outputs = []; labels = [] })

-- long enough for the oldest word that the label still copies, from each of its sources
abbrev pub IsOldEnough : TableRows → ℕ → CertificateRows → ℕ → Type 0
IsOldEnough t x c age = All (λ s. (label_row t x).stale + source_delay t c s ≤ age) (label_row t x).sources

-- the row of a label: its name, and the least age that covers each of its sources
pub record IsLabelRow (t : TableRows) (inputs : List NamedInput) (x : ℕ) (claim : NamedLabel) : Type 0 where
  pub named : claim.label ≡ text_of (slice_index_or t.names.labels x [])
  pub least : IsLeast (IsOldEnough t x (inputs_alone inputs)) claim.age

-- a row for each, with no delay above the one that stands for none
pub record HaveShortDelays (t : TableRows) (inputs : List NamedInput) : Type 0 where
  pub count : length inputs ≡ length t.buses
  pub each : EachAt (λ b claim. claim.delay ≤ LONGEST_WINDOW + 1) inputs

-- a row for each bus
pub record AreInputRows (t : TableRows) (inputs : List NamedInput) : Type 0 where
  pub count : length inputs ≡ length t.buses
  pub each : EachAt (IsInputRow t) inputs

-- a row for each output
pub record AreOutputRows (t : TableRows) (outputs : List NamedOutput) : Type 0 where
  pub count : length outputs ≡ length t.outputs
  pub each : EachAt (IsOutputRow t) outputs

-- a row for each label
pub record AreLabelRows (t : TableRows) (inputs : List NamedInput) (labels : List NamedLabel) : Type 0 where
  pub count : length labels ≡ length t.labels
  pub each : EachAt (IsLabelRow t inputs) labels
