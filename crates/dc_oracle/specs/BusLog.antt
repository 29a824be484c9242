-- What is carried along the moves of a bus.
use Rattle.std.specs.Prelude.{◌≡◌, ℕ, ◌+◌, ◌-◌, ◌≤◌, if◌then◌else◌, false, Option, Some, None, is_some, List, [], ◌∷◌, ◌++◌, length, take, drop}
use Rattle.dc_bound.specs.Run.{stamped}
use Rattle.dc_bound.specs.Moves.{Move, move_ends, came, latch, entered, taken, item, arrived_tick}
use Rattle.dc_bound.specs.Moves.Move.{In}
use Rattle.dc_event.specs.declared.event.Reply.{Reply}
use Rattle.dc_event.specs.declared.event.Reply.TheVariants.{Queued, Overrun, Latched}
use Rattle.dc_oracle.specs.BusData.{BusData}

-- a bus that brought nothing
abbrev pub new_log : ℕ → BusData
new_log room = record { words = []; last = None; latched = false; room = room }

abbrev pub no_log : BusData
no_log = new_log 0

-- the words that entered the queue and were not taken, as (tick in which it came, (number of the stream, word))
unfoldable pub waiting : ℕ → List Move → List (ℕ × (ℕ × ℕ))
waiting room ms = drop (taken room ms) (take (length (entered room ms)) (stamped move_ends came 0 ms))

-- the last that was taken, as (tick in which it came, number of the stream)
abbrev pub IsLastTaken : ℕ → List Move → Option (ℕ × ℕ) → Type 0
IsLastTaken room ms None = taken room ms ≡ 0
IsLastTaken room ms (Some x) = (1 ≤ taken room ms) × (x.0 ≡ arrived_tick (taken room ms - 1) ms) × (x.1 ≡ (item room ms (taken room ms - 1)).0)

-- the log holds what waits in the queue, the last word that was taken, and whether the bus has latched
pub record IsLog (room : ℕ) (log : BusData) (ms : List Move) : Type 0 where
  pub room_is : log.room ≡ room
  pub words : log.words ≡ waiting room ms
  pub last : IsLastTaken room ms log.last
  pub flag : log.latched ≡ is_some (latch room ms)

-- the reply of a queue to a declared word
abbrev pub queue_reply : ℕ → List Move → ℕ × ℕ → Reply
queue_reply room ms x =
    if is_some (latch room ms) then Latched
    else if is_some (latch room (ms ++ In x ∷ [])) then Overrun
    else Queued (length (entered room (ms ++ In x ∷ [])) - taken room (ms ++ In x ∷ []))

-- the log with the word, and the reply
pub record Received (room : ℕ) (new : BusData) (ms : List Move) (x : ℕ × ℕ) (r : Reply) : Type 0 where
  pub holds : IsLog room new (ms ++ In x ∷ [])
  pub answer : r ≡ queue_reply room ms x
