-- What contracts see of books and seats.
use Rattle.std.specs.Prelude.{◌≡◌, ℕ, ◌+◌, ◌-◌, ◌<◌, ◌≤◌, ◌==◌, if◌then◌else◌, max, replicate, Option, None, Some, List, [], ◌∷◌, ◌++◌, length, slice_get, slice_index}
use Rattle.std.specs.List.{sum_by}
use Rattle.atomic_table.specs.Seated.{TableId}
use Rattle.dc_board.specs.Marks.{fresh, IsSeatOf}
use Rattle.dc_board.specs.declared.view.View.{View}
use Rattle.dc_check.specs.Lent.{tables_of}
use Rattle.dc_check.specs.declared.certified.Certified.{Certified}
use Rattle.dc_core.specs.Standing.{MayFollow, IsFault}
use Rattle.dc_core.specs.declared.fault.StepFault.{StepFault}
use Rattle.dc_event.specs.declared.event.Actor.{Actor}
use Rattle.dc_event.specs.declared.event.Actor.TheVariants.{Wire, Router, Output, Clock}
use Rattle.dc_event.specs.declared.event.Event.{Event}
use Rattle.dc_event.specs.declared.event.Event.TheVariants.{Arrive}
use Rattle.dc_hub.specs.Entries.{actor_of, backlog_of, entry, events, IsLegal}
use Rattle.dc_hub.specs.declared.entry.Entry.{Entry}
use Rattle.dc_hub.specs.declared.entry.Receipt.{Receipt}
use Rattle.dc_hub.specs.declared.fault.HubFault.{HubFault}
use Rattle.dc_hub.specs.declared.fault.HubFault.TheVariants.{Step, TraceFull, Memory, Astray}
use Rattle.dc_board.specs.declared.limits.TheConstants.{MOST_WORDS}
use Rattle.dc_tables.specs.TableRows.{TableRows}
use Rattle.dc_hub.specs.declared.limits.TheConstants.{GREATEST_BACKLOG}

-- a book: its tables and their certificate, how many entries it may hold, and its entries
pub record BookView : Type 0 where
  pub certified : Certified
  pub limit : ℕ
  pub entries : List Entry

-- a book of the hub: it has the hub's certified tables and trace limit, its entries are legal, and no more than the limit
pub record IsBookOf (certified : Option Certified) (limit : ℕ) (book : BookView) : Type 0 where
  pub certified_is : certified ≡ Some book.certified
  pub limit_is : limit ≡ book.limit
  pub legal : IsLegal (tables_of book.certified) book.entries
  pub fits : length book.entries ≤ book.limit

-- the book is not full, and the event may not follow its run, for this cause
abbrev pub DoesNotTake : BookView → Event → StepFault → Type 0
DoesNotTake book event fault =
    (length book.entries < book.limit) × (¬ MayFollow (tables_of book.certified) (events book.entries) event) × IsFault (tables_of book.certified) (events book.entries) event fault

-- the receipt is of the last entry of a book of the hub, which has at least so many entries
pub record IsOfLast (certified : Option Certified) (limit calls : ℕ) (r : Receipt) : Type 0 where
  pub book : BookView
  pub before : List Entry
  pub of_hub : IsBookOf certified limit book
  pub last : book.entries ≡ before ++ entry r.event r.reply ∷ []
  pub index : r.index ≡ length book.entries
  pub some : calls ≤ length book.entries

-- a book of the hub is full, which has at least so many entries
pub record IsFullAt (certified : Option Certified) (limit calls : ℕ) : Type 0 where
  pub book : BookView
  pub of_hub : IsBookOf certified limit book
  pub full : limit ≤ length book.entries
  pub some : calls ≤ length book.entries

-- the event may not follow a book of the hub, which is not full and has at least so many entries
pub record IsRefusedAt (certified : Option Certified) (limit calls : ℕ) (event : Event) (fault : StepFault) : Type 0 where
  pub book : BookView
  pub of_hub : IsBookOf certified limit book
  pub room : length book.entries < limit
  pub some : calls ≤ length book.entries
  pub refused : ¬ MayFollow (tables_of book.certified) (events book.entries) event
  pub fault_is : IsFault (tables_of book.certified) (events book.entries) event fault

-- what a refusal of a call tells, whose seat has so many receipts: a full book, or one that the event may not follow
abbrev pub IsRefusal : Option Certified → ℕ → ℕ → Event → HubFault → Type 0
IsRefusal certified limit calls event (Step fault) = IsRefusedAt certified limit calls event fault
IsRefusal certified limit calls event TraceFull = IsFullAt certified limit calls
IsRefusal certified limit calls event Memory = Unit {0}
IsRefusal certified limit calls event Astray = ⊥

-- a closed book
pub record ClosedView : Type 0 where
  pub certified : Certified
  pub entries : List Entry

-- a seat: its actor, what the actor was answered, and the seat's parts of the hub's count
pub record SeatView : Type 0 where
  pub actor : Actor
  pub receipts : List Receipt
  pub parts : ℕ

-- a call of the seat's actor is refused so
abbrev pub IsRefusedCall : Option Certified → ℕ → SeatView → HubFault → Type 0
IsRefusedCall certified limit seat fault = (event : Event) × (actor_of event ≡ seat.actor) × IsRefusal certified limit (length seat.receipts) event fault

-- the word of the wire whose seat it is, is refused so
abbrev pub IsRefusedWord : Option Certified → (limit word : ℕ) → SeatView → HubFault → Type 0
IsRefusedWord certified limit word seat fault = (bus : ℕ) × (seat.actor ≡ Wire bus) × IsRefusal certified limit (length seat.receipts) (Arrive word bus) fault

-- they are the hub's tables
abbrev pub AreTablesOf : Option Certified → TableRows → Type 0
AreTablesOf certified t = (c : Certified) × (certified ≡ Some c) × (tables_of c ≡ t)

-- how many actors the hub's tables have beside the clock
abbrev pub others : Option Certified → ℕ
others None = 0
others (Some c) = length (tables_of c).buses + length (tables_of c).routers + length (tables_of c).outputs

-- the parts of the count that an actor's seat has: one, and the clock's all that the others leave
abbrev pub parts_for : Option Certified → ℕ → Actor → ℕ
parts_for certified whole (Wire b) = 1
parts_for certified whole (Router r) = 1
parts_for certified whole (Output o) = 1
parts_for certified whole Clock = whole - others certified

-- the parts of these actors' seats
abbrev pub parts_needed : Option Certified → ℕ → List SeatView → ℕ
parts_needed certified whole seats = sum_by (λ (s : SeatView). parts_for certified whole s.actor) seats

-- the parts of the count that these seats have
abbrev pub parts_in : List SeatView → ℕ
parts_in seats = sum_by (λ (s : SeatView). s.parts) seats

-- how many receipts the seats have
abbrev pub receipts_in : List SeatView → ℕ
receipts_in seats = sum_by (λ (s : SeatView). length s.receipts) seats

-- a wire's seat, with its seat at the board
pub record WireView : Type 0 where
  pub seat : SeatView
  pub marks : TableId × View

-- a seat without receipts
abbrev pub unused : Actor → ℕ → SeatView
unused actor parts = record { actor = actor; receipts = []; parts = parts }

-- the board of a hub: each of its words is at most the greatest capacity of a queue
abbrev pub board_caps : List ℕ
board_caps = replicate MOST_WORDS GREATEST_BACKLOG

-- what a seat knows after so many steps that tell it nothing
abbrev pub stepped : ℕ → View → View
stepped n v = record { caps = v.caps; noted = v.noted; seen = v.seen; steps = v.steps + n }

-- the greatest backlog that was answered, 0 where none
abbrev pub greatest : List Receipt → ℕ
greatest [] = 0
greatest (r ∷ rs) = max (backlog_of r.reply) (greatest rs)

-- the bus's word is noted at this mark, and no other
abbrev pub IsNotedAt : ℕ → ℕ → List ℕ → Type 0
IsNotedAt bus mark noted = (i : ℕ) → slice_index noted i ≡ (if i == bus then mark else 0)

-- a wire's seat has noted the greatest backlog that it was answered, for its own bus alone
abbrev pub HasNoted : WireView → Type 0
HasNoted w = (bus : ℕ) → w.seat.actor ≡ Wire bus → IsNotedAt bus (greatest w.seat.receipts) w.marks.1.noted

-- a new wire's seat, of this board
pub record IsNewWire (board : TableId × List ℕ) (bus : ℕ) (w : WireView) : Type 0 where
  pub seat : w.seat ≡ unused (Wire bus) 1
  pub board_seat : IsSeatOf board w.marks
  pub nothing_noted : w.marks.1 ≡ fresh board.1

-- there is one new seat for each of n wires, in order
abbrev pub AreNewWires : TableId × List ℕ → List WireView → ℕ → Type 0
AreNewWires board wires n = (length wires ≡ n) × ((k : ℕ) (w : WireView) → slice_get wires k ≡ Some w → IsNewWire board k w)

-- there is one new seat for each of n actors of a kind, in order
abbrev pub AreNewSeats : (ℕ → Actor) → List SeatView → ℕ → Type 0
AreNewSeats kind seats n = (length seats ≡ n) × ((k : ℕ) (s : SeatView) → slice_get seats k ≡ Some s → s ≡ unused (kind k) 1)
