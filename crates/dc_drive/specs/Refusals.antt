-- Why a drive gives up.
use Rattle.std.specs.Prelude.{ℕ, ⊤, Option, IfErr}
use Rattle.std.specs.declared.result.Result.{Result}
use Rattle.dc_check.specs.declared.certified.Certified.{Certified}
use Rattle.dc_drive.specs.declared.fault.DriveFault.{DriveFault}
use Rattle.dc_drive.specs.declared.fault.DriveFault.TheVariants.{Spawn, Memory, GateStuck, Hub}
use Rattle.dc_event.specs.declared.event.Event.{Event}
use Rattle.dc_hub.specs.Views.{IsRefusal}
use Rattle.dc_hub.specs.declared.fault.HubFault.{HubFault}

-- a call of the hub is refused so: a book of the hub is full, or some event may not follow it
abbrev pub IsRefused : Option Certified → ℕ → HubFault → Type 0
IsRefused certified limit fault = (event : Event) × IsRefusal certified limit 0 event fault

-- why a thread gives up, where `stuck` is what a stuck gate says of itself
abbrev pub HaltsAs : Option Certified → ℕ → (stuck : Type 0) → DriveFault → Type 0
HaltsAs certified limit stuck Spawn = ⊤
HaltsAs certified limit stuck Memory = ⊤
HaltsAs certified limit stuck GateStuck = stuck
HaltsAs certified limit stuck (Hub fault) = IsRefused certified limit fault

-- the gate may be stuck at some number
abbrev pub MayStickAt : (ℕ → Type 0) → Type 0
MayStickAt may_stick = (number : ℕ) × may_stick number

-- what has ended so gave up, where it did, only as a call is refused, or where the gate may be stuck
abbrev pub EndsAs : {T : Type 0} → Option Certified → ℕ → (may_stick : ℕ → Type 0) → Result T DriveFault → Type 0
EndsAs certified limit may_stick end = IfErr end (HaltsAs certified limit (MayStickAt may_stick))
