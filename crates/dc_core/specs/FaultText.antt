-- The code of a step's fault, as it is printed.
use Rattle.std.specs.Prelude.{ℕ, List, codes}
use Rattle.dc_core.specs.declared.fault.StepFault.{StepFault}
use Rattle.dc_core.specs.declared.fault.StepFault.TheVariants.{Spent, TooSoon, Owed, TickLimit, Unknown}

-- the word for why an event may not follow those before it
abbrev pub step_fault_code : StepFault → List ℕ
step_fault_code Spent = codes "spent"
step_fault_code TooSoon = codes "early"
step_fault_code (Owed actor) = codes "owed"
step_fault_code TickLimit = codes "ticks"
step_fault_code Unknown = codes "unknown"
