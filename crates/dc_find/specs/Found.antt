-- What is found of every input, output and label, whatever stands in the way.
use Rattle.std.specs.Prelude.{◌≡◌, ◌⊎◌, ℕ, ◌+◌, ◌≤◌, ◌<◌, List, [], length, slice_index, slice_index_or}
use Rattle.dc_busy.specs.Least.{IsLeast}
use Rattle.dc_busy.specs.declared.limits.TheConstants.{LONGEST_WINDOW}
use Rattle.dc_cert.specs.Bounds.{InputBound, OutputBound, input_bound, output_bound, input_numbers, output_numbers, numbers_of}
use Rattle.dc_cert.specs.NamedRows.{NamedInput, NamedOutput, NamedRows}
use Rattle.dc_check.specs.Accepts.{AreNamed}
use Rattle.dc_document.specs.Names.{text_of}
use Rattle.dc_find.specs.Rows.{EachAt, AreLeastNumbers, IsLeastOutput, IsOldEnough}
use Rattle.dc_find.specs.Ways.{NeverCloses}
use Rattle.dc_tables.specs.TableRows.{TableRows, bus_cap, bus_floor, output_cap, output_floor}

-- what stands where nothing is found: the longest window, and a delay that is out of range
pub record StandForNone (window delay : ℕ) : Type 0 where
  pub longest : window ≡ LONGEST_WINDOW
  pub none : LONGEST_WINDOW < delay

-- of a bus its least window, backlog and delay; none of them where no window closes
abbrev pub IsInputFound : TableRows → ℕ → InputBound → Type 0
IsInputFound t b c = AreLeastNumbers t b c ⊎ (NeverCloses (bus_cap t b) (bus_floor t b) × StandForNone c.window c.delay)

-- of an output its least window and delay; none of them where no window closes
abbrev pub IsOutputFound : TableRows → ℕ → OutputBound → Type 0
IsOutputFound t o c = IsLeastOutput t o c ⊎ (NeverCloses (output_cap t o) (output_floor t o) × StandForNone c.window c.delay)

-- the names of the tables, and what is found of each input and output; of a label the least age for the delays that stand
-- here, so that it is none where the delay of one of its sources' buses is
pub record IsFound (t : TableRows) (claims : NamedRows) : Type 0 where
  pub named : AreNamed t claims
  pub inputs : (b : ℕ) → b < length t.buses → IsInputFound t b (input_bound (numbers_of claims) b)
  pub outputs : (o : ℕ) → o < length t.outputs → IsOutputFound t o (output_bound (numbers_of claims) o)
  pub labels : (x : ℕ) → x < length t.labels → IsLeast (IsOldEnough t x (numbers_of claims)) (slice_index (numbers_of claims).ages x)

-- ---- row by row

-- the row of a bus: its name, and what is found of it, whose delay is at most the one that stands for none
pub record IsFoundInput (t : TableRows) (b : ℕ) (claim : NamedInput) : Type 0 where
  pub named : claim.bus ≡ text_of (slice_index_or t.names.buses b [])
  pub found : IsInputFound t b (input_numbers claim)
  pub short : claim.delay ≤ LONGEST_WINDOW + 1

-- the row of an output: its name, and what is found of it
pub record IsFoundOutput (t : TableRows) (o : ℕ) (claim : NamedOutput) : Type 0 where
  pub named : claim.output ≡ text_of (slice_index_or t.names.outputs o [])
  pub found : IsOutputFound t o (output_numbers claim)

-- a row for each bus
pub record AreFoundInputs (t : TableRows) (inputs : List NamedInput) : Type 0 where
  pub count : length inputs ≡ length t.buses
  pub each : EachAt (IsFoundInput t) inputs

-- a row for each output
pub record AreFoundOutputs (t : TableRows) (outputs : List NamedOutput) : Type 0 where
  pub count : length outputs ≡ length t.outputs
  pub each : EachAt (IsFoundOutput t) outputs
