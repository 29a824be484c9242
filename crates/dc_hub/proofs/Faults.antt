-- Which fault a refusal tells.
use Rattle.std.proofs.Common.{◌≡◌, Ok, Err, ap}
use Rattle.std.specs.declared.result.Result.{Result}
use Rattle.dc_core.specs.declared.fault.StepFault.{StepFault}
use Rattle.dc_hub.specs.declared.entry.Receipt.{Receipt}
use Rattle.dc_hub.specs.declared.fault.HubFault.{HubFault}
use Rattle.dc_hub.specs.declared.fault.HubFault.TheVariants.{Step, TraceFull, Memory, Astray}

step_fault : StepFault → Result Receipt HubFault → StepFault
step_fault d (Ok r) = d
step_fault d (Err (Step f)) = f
step_fault d (Err TraceFull) = d
step_fault d (Err Memory) = d
step_fault d (Err Astray) = d

pub same_fault : (f g : StepFault) → ◌≡◌ {A = Result Receipt HubFault} (Err (Step f)) (Err (Step g)) → f ≡ g
unfolding step_fault
same_fault f g e = ap (step_fault f) e
