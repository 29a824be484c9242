-- What workers report.
use Rattle.std.specs.Prelude.{◌≡◌, ℕ, ◌<◌, Option, Some, List, slice_get}
use Rattle.std.specs.List.{All}
use Rattle.std.specs.declared.result.Result.TheVariants.{Err}
use Rattle.dc_check.specs.declared.fault.CheckFault.{CheckFault}
use Rattle.dc_checkpar.specs.declared.worker.Halt.TheVariants.{GateStuck}
use Rattle.dc_checkpar.specs.declared.worker.Judged.{Judged}
use Rattle.dc_checkpar.specs.declared.worker.Report.{Report}

-- each fault is that of its job
abbrev pub AreJudged : (ℕ → Option CheckFault) → List Judged → Type 0
AreJudged verdict judged = All (λ j. j.fault ≡ verdict j.job) judged

-- the gate may be stuck at some job
abbrev pub MayStick : ℕ → (ℕ → Type 0) → Type 0
MayStick count may_stick = (job : ℕ) × (job < count) × may_stick job

-- what a worker reports of so many jobs: the verdicts of those that it judged; where it ended at a stuck gate, some job may stick it
pub record IsReport (count : ℕ) (verdict : ℕ → Option CheckFault) (may_stick : ℕ → Type 0) (r : Report) : Type 0 where
  pub judged : AreJudged verdict r.judged.items
  pub stuck : r.end ≡ Err GateStuck → MayStick count may_stick

-- where a job's fault is known, it is that of the job
abbrev pub AreKnown : (ℕ → Option CheckFault) → List (Option (Option CheckFault)) → Type 0
AreKnown verdict known = (k : ℕ) (fault : Option CheckFault) → slice_get known k ≡ Some (Some fault) → fault ≡ verdict k

-- each promise is of these jobs and of this gate
abbrev pub ArePromised : {J G H : Type 0} → J → G → (H → J) → (H → G) → List H → Type 0
ArePromised jobs gate jobs_of gate_of children = All (λ h. (jobs_of h ≡ jobs) × (gate_of h ≡ gate)) children
