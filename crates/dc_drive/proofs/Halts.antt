-- What faults tell, from thread to drive.
use Rattle.std.proofs.Common.{◌≡◌, ◌⊎◌, ⊎_elim, ℕ, Option, IfErr, Result, Ok, Err, sym, subst, arith}
use Rattle.dc_check.specs.declared.certified.Certified.{Certified}
use Rattle.dc_drive.specs.Refusals.{HaltsAs, IsRefused}
use Rattle.dc_drive.specs.declared.fault.DriveFault.{DriveFault}
use Rattle.dc_drive.specs.declared.fault.DriveFault.TheVariants.{Spawn, Memory, GateStuck, Hub}
use Rattle.dc_event.specs.declared.event.Event.{Event}
use Rattle.dc_hub.specs.Views.{IsRefusal}
use Rattle.dc_hub.specs.declared.entry.Receipt.{Receipt}
use Rattle.dc_hub.specs.declared.fault.HubFault.{HubFault}
use Rattle.dc_hub.specs.declared.fault.HubFault.TheVariants as hub

-- a book with at least so many entries has at least none
fewer : (certified : Option Certified) (limit calls : ℕ) (event : Event) (fault : HubFault) → IsRefusal certified limit calls event fault → IsRefusal certified limit 0 event fault
fewer certified limit calls event (hub.Step f) r = record { book = r.book; of_hub = r.of_hub; room = r.room; some = omega arith; refused = r.refused; fault_is = r.fault_is }
fewer certified limit calls event hub.TraceFull r = record { book = r.book; of_hub = r.of_hub; full = r.full; some = omega arith }
fewer certified limit calls event hub.Memory r = tt
fewer certified limit calls event hub.Astray r = r

-- what a call answers, whose event is known in part
pub refused_by : {I : Type 0} (event_of : I → Event) (P : I → Type 0) (certified : Option Certified) (limit calls : ℕ) (r : Result Receipt HubFault) → IfErr r (λ f. (i : I) × P i × IsRefusal certified limit calls (event_of i) f)
    → IfErr r (IsRefused certified limit)
refused_by event_of P certified limit calls (Ok x) h = tt
refused_by event_of P certified limit calls (Err f) h = (event_of h.0, fewer certified limit calls (event_of h.0) f h.2)

-- what more a stuck gate may be
pub also : {A B : Type 0} (certified : Option Certified) (limit : ℕ) (fault : DriveFault) → (A → B) → HaltsAs certified limit A fault → HaltsAs certified limit B fault
also certified limit Spawn f h = tt
also certified limit Memory f h = tt
also certified limit GateStuck f h = f h
also certified limit (Hub fault) f h = h

pub also_err : {T A B : Type 0} (certified : Option Certified) (limit : ℕ) (r : Result T DriveFault) → (A → B) → IfErr r (HaltsAs certified limit A) → IfErr r (HaltsAs certified limit B)
also_err certified limit (Ok x) f h = tt
also_err certified limit (Err fault) f h = also certified limit fault f h

-- one of two ends
pub either : {T : Type 0} (P : DriveFault → Type 0) (one other r : Result T DriveFault) → (r ≡ one) ⊎ (r ≡ other) → IfErr one P → IfErr other P → IfErr r P
either P one other r which a b = ⊎_elim (λ is. subst (λ x. IfErr x P) (sym is) a) (λ is. subst (λ x. IfErr x P) (sym is) b) which
