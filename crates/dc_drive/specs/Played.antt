-- What the seats of a hub have been answered while it was driven.
use Rattle.std.specs.Prelude.{◌≡◌, ℕ, ◌<◌, Option, Some, None, List, [], ◌∷◌, ◌++◌, map, filter, reverse, drop, length, slice_get, slice_index_or, All}
use Rattle.atomic_table.specs.Seated.{TableId}
use Rattle.dc_board.specs.Marks.{IsSeatOf}
use Rattle.dc_drive.specs.declared.driving.Counts.{Counts}
use Rattle.dc_script.specs.Script.{ScriptView}
use Rattle.dc_script.specs.declared.script.Timed.{Timed}
use Rattle.dc_event.specs.Steady.{steady}
use Rattle.dc_event.specs.declared.event.Actor.{Actor}
use Rattle.dc_event.specs.declared.event.Actor.TheVariants.{Wire, Router, Output, Clock}
use Rattle.dc_event.specs.declared.event.Event.{Event}
use Rattle.dc_event.specs.declared.event.Event.TheVariants.{Arrive}
use Rattle.dc_hub.specs.Closing.{is_by, actor_at, actor_count}
use Rattle.dc_hub.specs.Views.{SeatView, WireView}
use Rattle.dc_hub.specs.declared.entry.Receipt.{Receipt}
use Rattle.dc_hub.specs.declared.seats.Seats.{Seats}
use Rattle.dc_tables.specs.TableRows.{TableRows}

-- the same seat, with more receipts behind its own
abbrev pub IsSameSeat : SeatView → SeatView → Type 0
IsSameSeat s t = (t.actor ≡ s.actor) × (t.parts ≡ s.parts) × ((more : List Receipt) × (t.receipts ≡ s.receipts ++ more))

-- the same seats in the same order, each with more receipts behind its own. `seat` tells the seat of each
abbrev pub AreSame : {X : Type 0} → (X → SeatView) → List X → List X → Type 0
AreSame seat [] [] = Unit {0}
AreSame seat [] (y ∷ ys) = ⊥
AreSame seat (x ∷ xs) [] = ⊥
AreSame seat (x ∷ xs) (y ∷ ys) = IsSameSeat (seat x) (seat y) × AreSame seat xs ys

-- the same clock's seat
abbrev pub IsSameClock : Option SeatView → Option SeatView → Type 0
IsSameClock None None = Unit {0}
IsSameClock None (Some d) = ⊥
IsSameClock (Some c) None = ⊥
IsSameClock (Some c) (Some d) = IsSameSeat c d

-- the seat of a wire, apart from its seat at the board
abbrev pub seat_of_wire : WireView → SeatView
seat_of_wire w = w.seat

-- the seat of a router or of an output, which is one itself
abbrev pub itself : SeatView → SeatView
itself s = s

-- each wire's seat is of this hub
abbrev pub AreOfHub : TableId × List ℕ → List WireView → Type 0
AreOfHub hub wires = All (λ (w : WireView). IsSeatOf hub w.marks) wires

-- the events of receipts
abbrev pub events : List Receipt → List Event
events rs = map (λ (r : Receipt). r.event) rs

-- a wire's words as its arrivals
abbrev pub arrivals : ℕ → List Timed → List Event
arrivals bus ws = map (λ (w : Timed). Arrive w.word bus) ws

-- an actor's own events of a run
abbrev pub own : Actor → List Event → List Event
own a run = filter (is_by a) run

-- what an actor is to make: a wire its script's words, another its own steps of the steady run
abbrev pub role : TableRows → ScriptView → Actor → List Event
role t s (Wire b) = arrivals b (slice_index_or s.words b [])
role t s (Router r) = own (Router r) (steady t s.ticks)
role t s (Output o) = own (Output o) (steady t s.ticks)
role t s Clock = own Clock (steady t s.ticks)

-- the events of the seat's new receipts are its actor's role
abbrev pub HasPlayed : TableRows → ScriptView → (before : ℕ) → SeatView → Type 0
HasPlayed t s before seat = events (drop before seat.receipts) ≡ role t s seat.actor

-- those of each seat are, where each had so many receipts before
abbrev pub HavePlayed : {X : Type 0} → (X → SeatView) → TableRows → ScriptView → List ℕ → List X → Type 0
HavePlayed {X} seat t s before xs = (k n : ℕ) (x : X) → slice_get before k ≡ Some n → slice_get xs k ≡ Some x → HasPlayed t s n (seat x)

-- how many receipts each seat has
abbrev pub counts : {X : Type 0} → (X → SeatView) → List X → List ℕ
counts seat xs = map (λ x. length (seat x).receipts) xs

-- how many receipts the clock's seat has, 0 where there is none
abbrev pub count_of : Option SeatView → ℕ
count_of None = 0
count_of (Some c) = length c.receipts

-- the clock's is there, and its new receipts are its role
abbrev pub HasTicked : TableRows → ScriptView → ℕ → Option SeatView → Type 0
HasTicked t s before None = ⊥
HasTicked t s before (Some c) = HasPlayed t s before c

-- every actor has played its role, between these seats and those
pub record AllPlayed (t : TableRows) (s : ScriptView) (wires wires' : List WireView) (routers routers' outputs outputs' : List SeatView) (clock clock' : Option SeatView) : Type 0 where
  pub by_wires : HavePlayed seat_of_wire t s (counts seat_of_wire wires) wires'
  pub by_routers : HavePlayed itself t s (counts itself routers) routers'
  pub by_outputs : HavePlayed itself t s (counts itself outputs) outputs'
  pub by_clock : HasTicked t s (count_of clock) clock'

-- every actor of a hub has played its role, between its seats before and after
abbrev pub PlayedBetween : {L : Type 0} → TableRows → ScriptView → (before after : Seats L) → Type 0
PlayedBetween t s before after = AllPlayed t s before.wires.items after.wires.items before.routers.items after.routers.items before.outputs.items after.outputs.items before.clock after.clock

-- every actor of a hub has played its role, since its seats had so many receipts
abbrev pub PlayedSince : {L : Type 0} → TableRows → ScriptView → Counts → Seats L → Type 0
PlayedSince t s before seats =
    HavePlayed seat_of_wire t s before.wires.items seats.wires.items
    × HavePlayed itself t s before.routers.items seats.routers.items
    × HavePlayed itself t s before.outputs.items seats.outputs.items
    × HasTicked t s before.clock seats.clock

-- each seat's receipts are its actor's role
abbrev pub HaveRoles : TableRows → ScriptView → List SeatView → Type 0
HaveRoles t s seats = All (λ (seat : SeatView). events seat.receipts ≡ role t s seat.actor) seats

-- the run holds of each actor of the tables what it is to make, in order, and nothing else of it
abbrev pub IsDriven : TableRows → ScriptView → List Event → Type 0
IsDriven t s run = (p : ℕ) → p < actor_count t → own (actor_at t p) run ≡ role t s (actor_at t p)

-- ---- seats that threads have

-- what was handed to threads, the last first
abbrev pub out_with : {H X : Type 0} → (H → X) → List H → List X
out_with seat_of handles = reverse (map seat_of handles)
