-- The faults of a parallel check.
use Rattle.std.specs.Prelude.{◌≡◌, None, Some, MatchResult}
use Rattle.std.specs.declared.result.Result.{Result}
use Rattle.dc_cert.specs.NamedRows.{NamedRows}
use Rattle.dc_check.specs.Placed.{IsPlaced}
use Rattle.dc_check.specs.Verdict.{verdict_of}
use Rattle.dc_checkpar.specs.declared.fault.ParFault.{ParFault}
use Rattle.dc_checkpar.specs.declared.fault.ParFault.TheVariants as fault
use Rattle.dc_checkpar.specs.declared.worker.Halt.{Halt}
use Rattle.dc_checkpar.specs.declared.worker.Halt.TheVariants as halt
use Rattle.dc_tables.specs.TableRows.{TableRows}

-- a refusal is the verdict
abbrev pub IsOfVerdict : TableRows → NamedRows → ParFault → Type 0
IsOfVerdict t claims (fault.Refused f) = (verdict_of t claims ≡ Some f) × IsPlaced t f
IsOfVerdict t claims fault.Spawn = Unit {0}
IsOfVerdict t claims fault.Memory = Unit {0}
IsOfVerdict t claims fault.GateStuck = Unit {0}

-- the answer is the verdict: no fault, or what a refusal says; or it is why there is none
abbrev pub IsParVerdict : {T : Type 0} → TableRows → NamedRows → Result T ParFault → Type 0
IsParVerdict t claims answer = MatchResult answer (λ _. verdict_of t claims ≡ None) (λ fault. IsOfVerdict t claims fault)

-- why the workers halted before all jobs were judged, as a fault of the check
abbrev pub halt_fault : Halt → ParFault
halt_fault halt.Memory = fault.Memory
halt_fault halt.Spawn = fault.Spawn
halt_fault halt.GateStuck = fault.GateStuck
