-- What the finder gets to where something stands in the way.
use Rattle.std.specs.Prelude.{ℕ, ◌+◌, ◌<◌, length, slice_index}
use Rattle.dc_busy.specs.Least.{IsLeast}
use Rattle.dc_cert.specs.Bounds.{input_bound, output_bound, numbers_of}
use Rattle.dc_cert.specs.NamedRows.{NamedRows}
use Rattle.dc_check.specs.Accepts.{AreNamed}
use Rattle.dc_check.specs.Verdict.{job_count}
use Rattle.dc_find.specs.Rows.{AreLeastNumbers, IsLeastOutput, IsOldEnough}
use Rattle.dc_find.specs.Ways.{NeverCloses}
use Rattle.dc_find.specs.declared.fault.FindFault.{FindFault}
use Rattle.dc_find.specs.declared.fault.FindFault.TheVariants.{WindowNeverCloses, QueueTooShort, LabelRule, Memory}
use Rattle.dc_find.specs.declared.fault.Queue.TheVariants.{Input, Output}
use Rattle.dc_tables.specs.TableRows.{TableRows, bus_cap, bus_floor, output_cap, output_floor}

-- how many jobs are reached, the inputs, the outputs and the labels in one row: those before the fault; where the queue of an
-- input is too short, that input too; where a rule on a label is broken, all
abbrev pub jobs_reached : TableRows → FindFault → ℕ
jobs_reached t (WindowNeverCloses (Input b)) = b
jobs_reached t (WindowNeverCloses (Output o)) = length t.buses + o
jobs_reached t (QueueTooShort b) = b + 1
jobs_reached t (LabelRule x condition) = job_count t
jobs_reached t Memory = 0

-- the names of the tables, and in each of the first jobs the least numbers: of a label, for the delays that stand here
pub record IsReached (t : TableRows) (jobs : ℕ) (claims : NamedRows) : Type 0 where
  pub named : AreNamed t claims
  pub inputs : (b : ℕ) → b < length t.buses → b < jobs → AreLeastNumbers t b (input_bound (numbers_of claims) b)
  pub outputs : (o : ℕ) → o < length t.outputs → length t.buses + o < jobs → IsLeastOutput t o (output_bound (numbers_of claims) o)
  pub labels : (x : ℕ) → x < length t.labels → IsLeast (IsOldEnough t x (numbers_of claims)) (slice_index (numbers_of claims).ages x)

-- in each of the first jobs a window closes
pub record CloseBelow (t : TableRows) (jobs : ℕ) : Type 0 where
  pub inputs : (b : ℕ) → b < length t.buses → b < jobs → ¬ NeverCloses (bus_cap t b) (bus_floor t b)
  pub outputs : (o : ℕ) → o < length t.outputs → length t.buses + o < jobs → ¬ NeverCloses (output_cap t o) (output_floor t o)
