-- A closed book holds what each actor was to make, and why a hub has refused.
use Rattle.std.proofs.Common.{◌≡◌, ◌≢◌, ℕ, ◌+◌, ◌<◌, Bool, true, false, cond, Option, Some, None, List, [], ◌∷◌, length, get_or, IfSome, refl, sym, ap, subst, ◌∙◌, inl, inr}
use Rattle.std.specs.Prelude.{slice_get}
use Rattle.std.proofs.lemmas.Option.{slice_get-get_or}
use Rattle.dc_run_bench.specs.Bench.{HasRefused, WentAstray}
use Rattle.dc_check.specs.Lent.{tables_of}
use Rattle.dc_check.specs.declared.certified.Certified.{Certified}
use Rattle.dc_drive.specs.Played.{HaveRoles, IsDriven, events as events_in, own, role}
use Rattle.dc_drive.specs.Refusals.{HaltsAs, MayStickAt}
use Rattle.dc_drive.specs.declared.fault.DriveFault.{DriveFault}
use Rattle.dc_drive.specs.declared.fault.DriveFault.TheVariants as drive
use Rattle.dc_event.specs.declared.event.Actor.{Actor}
use Rattle.dc_event.specs.declared.event.Actor.TheVariants.{Clock}
use Rattle.dc_event.specs.declared.event.Event.{Event}
use Rattle.dc_hub.specs.Closing.{is_by, receipts_from, AreOneEach, AllAgree, IsCloseFault}
use Rattle.dc_hub.specs.Entries.{events}
use Rattle.dc_hub.specs.Views.{BookView, ClosedView, SeatView, IsBookOf, AreTablesOf, unused}
use Rattle.dc_hub.specs.declared.entry.Entry.{Entry}
use Rattle.dc_hub.specs.declared.entry.Receipt.{Receipt}
use Rattle.dc_hub.specs.declared.fault.CloseFault.{CloseFault}
use Rattle.dc_hub.specs.declared.fault.HubFault.{HubFault}
use Rattle.dc_hub.specs.declared.fault.HubFault.TheVariants as hub
use Rattle.dc_hub.specs.declared.limits.TheConstants.{LONGEST_TRACE}
use Rattle.dc_script.specs.Script.{ScriptView, bench_script}
use Rattle.dc_tables.specs.TableRows.{TableRows}

kept : (b : Bool) (r : Receipt) (rs : List Receipt) (xs : List Event) → events_in rs ≡ xs → events_in (cond b (r ∷ rs) rs) ≡ cond b (r.event ∷ xs) xs
kept true r rs xs same = ap (λ l. r.event ∷ l) same
kept false r rs xs same = same

-- the receipts that an actor's entries call for are of its own events
own_receipts : (a : Actor) (n : ℕ) (es : List Entry) → events_in (receipts_from a n es) ≡ own a (events es)
own_receipts a n [] = refl
own_receipts a n (e ∷ es) = kept (is_by a e.event) _ (receipts_from a (n + 1) es) (own a (events es)) (own_receipts a (n + 1) es)

-- where the seats are one for each actor, their receipts are its entries and are its role, the entries are what was to be made
driven : (t : TableRows) (s : ScriptView) (es : List Entry) (seats : List SeatView) → AreOneEach t seats → AllAgree es seats → HaveRoles t s seats → IsDriven t s (events es)
driven t s es seats each agree roles p below =
    let d : SeatView = unused Clock 0 in
    let inside : p < length seats = subst (λ n. p < n) (sym each.0) below in
    let there : slice_get seats p ≡ Some (get_or seats p d) = slice_get-get_or seats p d inside in
    let x : SeatView = get_or seats p d in
    subst (λ (a : Actor). own a (events es) ≡ role t s a) (each.1 p x there)
    (sym (own_receipts x.actor 0 es) ∙ sym (ap events_in (agree p x there)) ∙ roles p d inside)

pub closed_driven : (known : Option Certified) (c : ClosedView) (ticks : ℕ) (seats : List SeatView) → known ≡ Some c.certified
    → IfSome known (λ x. HaveRoles (tables_of x) (bench_script (tables_of x) ticks) seats) → AreOneEach (tables_of c.certified) seats → AllAgree c.entries seats
    → IsDriven (tables_of c.certified) (bench_script (tables_of c.certified) ticks) (events c.entries)
closed_driven known c ticks seats is roles each agree =
    driven (tables_of c.certified) (bench_script (tables_of c.certified) ticks) c.entries seats each agree
    (subst (λ o. IfSome o (λ x. HaveRoles (tables_of x) (bench_script (tables_of x) ticks) seats)) is roles)

-- ---- why a hub has refused

-- its book did not close
pub unclosed : (known : Option Certified) (limit ticks : ℕ) (book : BookView) (seats : List SeatView) (fault : CloseFault) → limit ≡ LONGEST_TRACE → IsBookOf known limit book → IsCloseFault (tables_of book.certified) book.entries seats fault
    → IfSome known (λ c. HasRefused c ticks)
unclosed known limit ticks book seats fault is of_hub why =
    subst (λ o. IfSome o (λ c. HasRefused c ticks)) (sym of_hub.certified_is)
    (inr (inr (record {
      book = book;
      seats = seats;
      fault = fault;
      of_hub = subst (λ n. IsBookOf (Some book.certified) n book) is (subst (λ o. IsBookOf o limit book) of_hub.certified_is of_hub);
      fault_is = why;
    })))

-- a call was refused, or a seat went astray
pub refused : (known : Option Certified) (limit ticks : ℕ) (stuck : Type 0) (fault : HubFault) → limit ≡ LONGEST_TRACE → fault ≢ hub.Memory → (drive.Hub fault ≢ drive.Hub hub.Astray → HaltsAs known limit stuck (drive.Hub fault))
    → (drive.Hub fault ≡ drive.Hub hub.Astray → IfSome known (λ c. WentAstray (tables_of c) (bench_script (tables_of c) ticks))) → IfSome known (λ c. HasRefused c ticks)
refused None limit ticks stuck fault is not told astray = tt
refused (Some c) limit ticks stuck (hub.Step f) is not told astray = inl (hub.Step f, not, subst (λ n. HaltsAs (Some c) n stuck (drive.Hub (hub.Step f))) is (told (λ e. absurd (cc))))
refused (Some c) limit ticks stuck hub.TraceFull is not told astray = inl (hub.TraceFull, not, subst (λ n. HaltsAs (Some c) n stuck (drive.Hub hub.TraceFull)) is (told (λ e. absurd (cc))))
refused (Some c) limit ticks stuck hub.Memory is not told astray = absurd (not refl)
refused (Some c) limit ticks stuck hub.Astray is not told astray = inr (inl (astray refl))

-- an open gate is never stuck
pub never_stuck : (known : Option Certified) (limit : ℕ) (fault : DriveFault) → HaltsAs known limit (MayStickAt (λ _. ⊥)) fault → HaltsAs known limit ⊥ fault
never_stuck known limit drive.Spawn told = tt
never_stuck known limit drive.Memory told = tt
never_stuck known limit drive.GateStuck told = told.1
never_stuck known limit (drive.Hub f) told = told

-- what is so of these tables and of their script is so of the charter's
pub of_known : (P : TableRows → ScriptView → Type 0) (known : Option Certified) (t : TableRows) (s : ScriptView) (ticks : ℕ) → AreTablesOf known t → s ≡ bench_script t ticks → P t s → IfSome known (λ c. P (tables_of c) (bench_script (tables_of c) ticks))
of_known P known t s ticks are is so =
    subst (λ o. IfSome o (λ c. P (tables_of c) (bench_script (tables_of c) ticks))) (sym are.1)
    (subst (λ u. P u (bench_script u ticks)) (sym are.2) (subst (P t) is so))
