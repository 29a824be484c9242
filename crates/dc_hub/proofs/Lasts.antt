-- What a call that takes the lock tells of some book of the hub.
use Rattle.std.proofs.Common.{◌≡◌, ◌≢◌, ℕ, ◌<◌, ◌≤◌, ◌++◌, ◌∷◌, [], Option, IfOk, IfErr, Ok, Err, length, refl, subst, sym}
use Rattle.std.specs.declared.result.Result.{Result}
use Rattle.dc_check.specs.Lent.{tables_of}
use Rattle.dc_check.specs.declared.certified.Certified.{Certified}
use Rattle.dc_core.specs.Standing.{MayFollow, IsFault}
use Rattle.dc_core.specs.declared.fault.StepFault.{StepFault}
use Rattle.dc_event.specs.declared.event.Event.{Event}
use Rattle.dc_hub.specs.Entries.{actor_of, entry, events}
use Rattle.dc_hub.specs.Views.{BookView, IsBookOf, SeatView, IsOfLast, IsFullAt, IsRefusedAt, IsRefusal}
use Rattle.dc_hub.specs.declared.entry.Receipt.{Receipt}
use Rattle.dc_hub.specs.declared.fault.HubFault.{HubFault}
use Rattle.dc_hub.specs.declared.fault.HubFault.TheVariants.{Step, TraceFull, Memory, Astray}

pub last_of : (certified : Option Certified) (limit calls : ℕ) (old new : BookView) (event : Event) (r : Result Receipt HubFault) → IsBookOf certified limit new → calls ≤ length new.entries
    → IfOk r (λ x. (new.entries ≡ old.entries ++ entry event x.reply ∷ []) × (x.index ≡ length new.entries) × (x.event ≡ event)) → IfOk r (λ x. IsOfLast certified limit calls x)
last_of certified limit calls old new event (Ok x) of_hub some h = record {
  book = new;
  before = old.entries;
  of_hub = of_hub;
  last = subst (λ (e : Event). new.entries ≡ old.entries ++ entry e x.reply ∷ []) (sym h.2) h.0;
  index = h.1;
  some = some;
}
last_of certified limit calls old new event (Err f) of_hub some h = tt

full_at : (certified : Option Certified) (limit calls : ℕ) (book : BookView) → IsBookOf certified limit book → calls ≤ length book.entries → book.limit ≤ length book.entries → IsFullAt certified limit calls
full_at certified limit calls book of_hub some full = record { book = book; of_hub = of_hub; full = subst (λ k. k ≤ length book.entries) (sym of_hub.limit_is) full; some = some }

refused_at : (certified : Option Certified) (limit calls : ℕ) (book : BookView) (event : Event) (fault : StepFault) → IsBookOf certified limit book → calls ≤ length book.entries
    → (length book.entries < book.limit) × (¬ MayFollow (tables_of book.certified) (events book.entries) event) × IsFault (tables_of book.certified) (events book.entries) event fault → IsRefusedAt certified limit calls event fault
refused_at certified limit calls book event fault of_hub some h = record {
  book = book;
  of_hub = of_hub;
  room = subst (λ k. length book.entries < k) (sym of_hub.limit_is) h.0;
  some = some;
  refused = h.1;
  fault_is = h.2;
}

-- what a refusal of the book tells
pub refusal_of : (certified : Option Certified) (limit calls : ℕ) (book : BookView) (event : Event) (r : Result Receipt HubFault) → IsBookOf certified limit book → calls ≤ length book.entries → (r ≡ Err TraceFull → book.limit ≤ length book.entries)
    → ((f : StepFault) → r ≡ Err (Step f) → (length book.entries < book.limit) × (¬ MayFollow (tables_of book.certified) (events book.entries) event) × IsFault (tables_of book.certified) (events book.entries) event f) → r ≢ Err Astray
    → IfErr r (λ f. IsRefusal certified limit calls event f)
refusal_of certified limit calls book event (Ok x) of_hub some full step astray = tt
refusal_of certified limit calls book event (Err (Step f)) of_hub some full step astray = refused_at certified limit calls book event f of_hub some (step f refl)
refusal_of certified limit calls book event (Err TraceFull) of_hub some full step astray = full_at certified limit calls book of_hub some (full refl)
refusal_of certified limit calls book event (Err Memory) of_hub some full step astray = tt
refusal_of certified limit calls book event (Err Astray) of_hub some full step astray = astray refl

-- the event is the one of the seat's actor
pub by_actor : (certified : Option Certified) (limit : ℕ) (inside seat : SeatView) (event : Event) (r : Result Receipt HubFault) → inside ≡ seat → actor_of event ≡ inside.actor → IfErr r (λ f. IsRefusal certified limit (length inside.receipts) event f)
    → IfErr r (λ f. (e : Event) × (actor_of e ≡ seat.actor) × IsRefusal certified limit (length seat.receipts) e f)
by_actor certified limit inside seat event r same actor h =
    subst (λ (s : SeatView). IfErr r (λ f. (e : Event) × (actor_of e ≡ s.actor) × IsRefusal certified limit (length s.receipts) e f)) same (there r h)
  where
    there : (r : Result Receipt HubFault) → IfErr r (λ f. IsRefusal certified limit (length inside.receipts) event f) → IfErr r (λ f. (e : Event) × (actor_of e ≡ inside.actor) × IsRefusal certified limit (length inside.receipts) e f)
    there (Ok x) h = tt
    there (Err f) h = (event, actor, h)
