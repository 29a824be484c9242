-- Which receipts an actor's entries call for, and where receipts differ from them.
use Rattle.std.specs.Prelude.{◌≡◌, ◌≢◌, ℕ, ◌+◌, ◌-◌, ◌<◌, ◌==◌, Bool, true, false, cond, if◌then◌else◌, nat_lt, Option, Some, None, List, [], ◌∷◌, ◌++◌, map, take, length, slice_get}
use Rattle.dc_check.specs.Lent.{tables_of}
use Rattle.dc_check.specs.declared.certified.Certified.{Certified}
use Rattle.dc_event.specs.declared.event.Actor.{Actor}
use Rattle.dc_event.specs.declared.event.Actor.TheVariants.{Wire, Router, Output, Clock}
use Rattle.dc_event.specs.declared.event.Event.{Event}
use Rattle.dc_event.specs.declared.event.Event.TheVariants.{Tick, Arrive, Route, Send}
use Rattle.dc_hub.specs.Views.{BookView, SeatView, WireView, IsBookOf, parts_in, receipts_in}
use Rattle.dc_hub.specs.declared.entry.Entry.{Entry}
use Rattle.dc_hub.specs.declared.entry.Receipt.{Receipt}
use Rattle.dc_hub.specs.declared.fault.CloseFault.{CloseFault}
use Rattle.dc_hub.specs.declared.fault.CloseFault.TheVariants.{SeatMissing, Mismatch}
use Rattle.dc_hub.specs.declared.seats.Seats.{Seats}
use Rattle.dc_tables.specs.TableRows.{TableRows}

-- whether the actor makes the step
abbrev pub is_by : Actor → Event → Bool
is_by (Wire b) (Arrive w a) = a == b
is_by (Wire b) (Route r) = false
is_by (Wire b) (Send o) = false
is_by (Wire b) Tick = false
is_by (Router q) (Arrive w a) = false
is_by (Router q) (Route r) = r == q
is_by (Router q) (Send o) = false
is_by (Router q) Tick = false
is_by (Output p) (Arrive w a) = false
is_by (Output p) (Route r) = false
is_by (Output p) (Send o) = o == p
is_by (Output p) Tick = false
is_by Clock (Arrive w a) = false
is_by Clock (Route r) = false
is_by Clock (Send o) = false
is_by Clock Tick = true

-- the receipt of an entry at this place
abbrev pub receipt_at : ℕ → Entry → Receipt
receipt_at n e = record { index = n; event = e.event; reply = e.reply }

-- the receipts of the actor's entries, where n entries stand before these
abbrev pub receipts_from : Actor → ℕ → List Entry → List Receipt
receipts_from a n [] = []
receipts_from a n (e ∷ es) = cond (is_by a e.event) (receipt_at (n + 1) e ∷ receipts_from a (n + 1) es) (receipts_from a (n + 1) es)

-- the receipts that a book's entries call for
abbrev pub receipts_of : Actor → List Entry → List Receipt
receipts_of a es = receipts_from a 0 es

-- the index of a receipt, or of the entry there, where the receipts have ended
abbrev pub IsIndexOf : Option Receipt → Option Receipt → ℕ → Type 0
IsIndexOf (Some r) w i = i ≡ r.index
IsIndexOf None (Some w) i = i ≡ w.index
IsIndexOf None None i = ⊥

-- the receipts differ from those that are wanted, first where this index stands
pub record DifferAt (receipts wanted : List Receipt) (index : ℕ) : Type 0 where
  pub place : ℕ
  pub same : take place receipts ≡ take place wanted
  pub unlike : slice_get receipts place ≢ slice_get wanted place
  pub reported : IsIndexOf (slice_get receipts place) (slice_get wanted place) index

-- the seat's receipts are its actor's entries, in order
abbrev pub Agrees : List Entry → SeatView → Type 0
Agrees es s = s.receipts ≡ receipts_of s.actor es

-- the clock's seat as a list, empty where it is gone
abbrev pub clock_seats : Option SeatView → List SeatView
clock_seats None = []
clock_seats (Some s) = s ∷ []

-- all seats in order: wires, routers, outputs, clock
abbrev pub all_seats : List WireView → List SeatView → List SeatView → Option SeatView → List SeatView
all_seats wires routers outputs clock = map (λ (w : WireView). w.seat) wires ++ (routers ++ (outputs ++ clock_seats clock))

-- all seats of a hub in that order
abbrev pub seats_in : {L : Type 0} → Seats L → List SeatView
seats_in seats = all_seats seats.wires.items seats.routers.items seats.outputs.items seats.clock

-- the actor at this place in that order
abbrev pub actor_at : TableRows → ℕ → Actor
actor_at t p =
    if nat_lt p (length t.buses) then Wire p
    else if nat_lt (p - length t.buses) (length t.routers) then Router (p - length t.buses)
    else if nat_lt (p - length t.buses - length t.routers) (length t.outputs) then Output (p - length t.buses - length t.routers)
    else Clock

-- how many actors the tables have: wires, routers, outputs and the clock
abbrev pub actor_count : TableRows → ℕ
actor_count t = length t.buses + length t.routers + length t.outputs + 1

-- the seats are one for each actor, in order
abbrev pub AreOneEach : TableRows → List SeatView → Type 0
AreOneEach t seats = (length seats ≡ actor_count t) × ((p : ℕ) (s : SeatView) → slice_get seats p ≡ Some s → s.actor ≡ actor_at t p)

-- each seat's receipts are its actor's entries
abbrev pub AllAgree : List Entry → List SeatView → Type 0
AllAgree es seats = (p : ℕ) (s : SeatView) → slice_get seats p ≡ Some s → Agrees es s

-- the seats are one for each actor of the certified tables, and their receipts are the entries
abbrev pub ClosesOver : Certified → List Entry → List SeatView → Type 0
ClosesOver certified es seats = AreOneEach (tables_of certified) seats × AllAgree es seats

-- the seats are one for each actor of the tables, have all of so many parts of the count, and were answered nothing
abbrev pub AreUnanswered : TableRows → (parts : ℕ) → List SeatView → Type 0
AreUnanswered t parts seats = AreOneEach t seats × (parts_in seats ≡ parts) × (receipts_in seats ≡ 0)

-- the first seat whose receipts are not its actor's entries has this index first
pub record FirstDiffers (es : List Entry) (seats : List SeatView) (index : ℕ) : Type 0 where
  pub place : ℕ
  pub seat : SeatView
  pub there : slice_get seats place ≡ Some seat
  pub differs : DifferAt seat.receipts (receipts_of seat.actor es) index
  pub before : (p : ℕ) (s : SeatView) → p < place → slice_get seats p ≡ Some s → Agrees es s

-- what each refusal to close says of the entries and the seats
abbrev pub IsCloseFault : TableRows → List Entry → List SeatView → CloseFault → Type 0
IsCloseFault t es seats SeatMissing = ¬ AreOneEach t seats
IsCloseFault t es seats (Mismatch index) = AreOneEach t seats × FirstDiffers es seats index

-- a book of the hub does not close over the seats, for this cause; where they are one for each actor, it has as many entries as they have receipts
abbrev pub DoesNotClose : Option Certified → ℕ → List SeatView → CloseFault → Type 0
DoesNotClose certified limit seats fault =
    (book : BookView) × IsBookOf certified limit book × (AreOneEach (tables_of book.certified) seats → length book.entries ≡ receipts_in seats) × IsCloseFault (tables_of book.certified) book.entries seats fault
