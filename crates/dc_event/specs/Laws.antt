-- Laws above the definitions of a run. Each is the contract of a function in `laws`.
use Rattle.std.specs.Prelude.{true, ◌≡◌, ℕ, ◌≤◌, ◌<◌, false, cond, ◌==◌, nat_lt, Option, List, [], ◌∷◌, ◌++◌, length, take, drop, map}
use Rattle.std.specs.List.{All, flat_map}
use Rattle.dc_bound.specs.Places.{each_place}
use Rattle.dc_bound.specs.Moves.{arrived_tick, routed_tick}
use Rattle.dc_bound.specs.Window.{ticks_of}
use Rattle.dc_bound.specs.Early.{HoldsCap, admitted}
use Rattle.dc_tables.specs.TableRows.{TableRows, stream_row, is_policed}
use Rattle.dc_event.specs.Offers.{offered, cap_of}
use Rattle.dc_event.specs.Time.{tick_after}
use Rattle.dc_event.specs.Buses.{arrivals, moves, room, is_latched, bus_entered, bus_taken, backlog}
use Rattle.dc_event.specs.Outputs.{due_tick, sent}
use Rattle.dc_event.specs.Replies.{outputs_of}
use Rattle.dc_event.specs.Admissible.{IsAdmissible}
use Rattle.dc_event.specs.Alive.{came_words}
use Rattle.dc_event.specs.Steady.{each_below, steady}
use Rattle.dc_event.specs.Breaks.{BreaksBudgetsAt, BreaksSourcesAt, BreaksClaimsAt}
use Rattle.dc_event.specs.declared.event.Event.{Event}
use Rattle.dc_event.specs.declared.event.Reply.{Reply}
use Rattle.dc_event.specs.declared.event.Reply.TheVariants.{Queued, BadParity, Undeclared, TooEarly, Overrun, Latched, Took, Empty, Sent, Idle, Now}
use Rattle.dc_event.specs.declared.event.Claim.{Claim}

-- ---- queues

-- a backlog never passes the queue's capacity
abbrev pub BacklogFits : TableRows → Type 0
BacklogFits t = (b : ℕ) (run : List Event) → backlog t b run ≤ room t b

-- the words of a list of items
abbrev pub words_of : List (ℕ × ℕ) → List ℕ
words_of items = map (λ x. x.1) items

-- the word that a reply tells to be taken from the bus
abbrev pub taken_word : ℕ → Reply → List ℕ
taken_word b (Took w a) = cond (a == b) (w ∷ []) []
taken_word b (Queued n) = []
taken_word b BadParity = []
taken_word b Undeclared = []
taken_word b TooEarly = []
taken_word b Overrun = []
taken_word b Latched = []
taken_word b (Empty a) = []
taken_word b (Sent l w) = []
taken_word b Idle = []
taken_word b (Now n) = []

-- the words that the routers' replies tell to be taken from the bus, in order
abbrev pub taken_words : TableRows → ℕ → List Event → List ℕ
taken_words t b run = flat_map (taken_word b) (outputs_of t run)

-- the words that wait in the bus's queue
abbrev pub waiting_words : TableRows → ℕ → List Event → List ℕ
waiting_words t b run = drop (bus_taken t b run) (words_of (bus_entered t b run))

-- first in, first out: what entered is what the routers took and then what waits, in order
abbrev pub IsFirstInFirstOut : TableRows → Type 0
IsFirstInFirstOut t = (b : ℕ) (run : List Event) → words_of (bus_entered t b run) ≡ taken_words t b run ++ waiting_words t b run

-- later events only add to what entered, and to what was taken; and no more is taken than entered
pub record QueueGrows (t : TableRows) (b : ℕ) (past rest : List Event) : Type 0 where
  pub entered_grows : (more : List (ℕ × ℕ)) × (bus_entered t b (past ++ rest) ≡ bus_entered t b past ++ more)
  pub taken_grows : bus_taken t b past ≤ bus_taken t b (past ++ rest)
  pub taken_entered : bus_taken t b past ≤ length (bus_entered t b past)

-- so the queue of each bus grows, after any events
abbrev pub QueuesGrow : TableRows → Type 0
QueuesGrow t = (b : ℕ) (past rest : List Event) → QueueGrows t b past rest

-- on a bus that has not latched, the words that came are what entered
abbrev pub AllEnter : TableRows → Type 0
AllEnter t = (b : ℕ) (run : List Event) → is_latched t b run ≡ false → map (λ a. a.1) (came_words t b run) ≡ bus_entered t b run

-- a routed word came no later than it was routed
abbrev pub ComeBeforeRouted : TableRows → Type 0
ComeBeforeRouted t = (b n : ℕ) (run : List Event) → n < bus_taken t b run → arrived_tick n (moves t b run) ≤ routed_tick (room t b) n (moves t b run)

-- ---- policed buses

-- of a stream of a policed bus the arrivals are its offered words that are not early, and keep its cap in any consecutive ticks, in every run;
-- of another stream they are its offered words
pub record PoliceWorks (t : TableRows) (s : ℕ) (run : List Event) : Type 0 where
  pub admits : is_policed t (stream_row t s).bus ≡ true → ticks_of (arrivals t s run) ≡ admitted (cap_of t s) (offered t s run)
  pub keeps : is_policed t (stream_row t s).bus ≡ true → HoldsCap (cap_of t s) (ticks_of (arrivals t s run))
  pub others : is_policed t (stream_row t s).bus ≡ false → ticks_of (arrivals t s run) ≡ offered t s run

-- so it is with each stream of the tables, in every run
abbrev pub PolicesEach : TableRows → Type 0
PolicesEach t = (s : ℕ) → s < length t.streams → (run : List Event) → PoliceWorks t s run

-- ---- replies

-- a reply never depends on what comes after it: the outputs of a beginning are the beginning of the outputs
abbrev pub RepliesStand : TableRows → Type 0
RepliesStand t = (past rest : List Event) → take (length past) (outputs_of t (past ++ rest)) ≡ outputs_of t past

-- each event has one reply
abbrev pub EachReplied : TableRows → Type 0
EachReplied t = (run : List Event) → length (outputs_of t run) ≡ length run

-- ---- sent entries

-- the entry that the event sends from the output, as (tick, number of the entry)
abbrev pub sent_entry : TableRows → ℕ → List Event → Event → List (ℕ × ℕ)
sent_entry t o past e = cond (nat_lt (sent t o past) (sent t o (past ++ e ∷ []))) ((tick_after past, sent t o past) ∷ []) []

-- the entries that the output has sent, in the order of their sends
abbrev pub sent_entries : TableRows → ℕ → List Event → List (ℕ × ℕ)
sent_entries t o run = flat_map (λ xs. xs) (each_place (sent_entry t o) run)

-- sent entries are due entries, and leave in the order of their numbers, none left out
pub record SendsInOrder (t : TableRows) (o : ℕ) (run : List Event) : Type 0 where
  pub in_order : map (λ x. x.1) (sent_entries t o run) ≡ each_below (λ n. n ∷ []) (sent t o run)
  pub when_due : All (λ x. due_tick t o x.1 ≤ x.0) (sent_entries t o run)

-- so each output of the tables sends, in every run
abbrev pub SendInOrder : TableRows → Type 0
SendInOrder t = (o : ℕ) → o < length t.outputs → (run : List Event) → SendsInOrder t o run

-- ---- admissible runs

-- a beginning of an admissible run is admissible
abbrev pub BeginningsAdmissible : TableRows → Type 0
BeginningsAdmissible t = (past rest : List Event) → IsAdmissible t (past ++ rest) → IsAdmissible t past

-- steady runs of every length are admissible, so that no theorem over admissible runs is empty
abbrev pub SteadyAdmissible : TableRows → Type 0
SteadyAdmissible t = (n : ℕ) → IsAdmissible t (steady t n)

-- and have that many whole ticks
abbrev pub SteadyTicks : TableRows → Type 0
SteadyTicks t = (n : ℕ) → tick_after (steady t n) ≡ n

-- ---- places

-- there is one place, at most, at which a run first breaks the budgets, what is asked of the sources, or the claims
pub record OneFirstBreak (t : TableRows) (run : List Event) : Type 0 where
  pub of_budgets : (p q : Option ℕ) → BreaksBudgetsAt t run p → BreaksBudgetsAt t run q → p ≡ q
  pub of_sources : (p q : Option ℕ) → BreaksSourcesAt t run p → BreaksSourcesAt t run q → p ≡ q
  pub of_claims : (ages : List ℕ) (p q : Option (Claim × ℕ)) → BreaksClaimsAt t ages run p → BreaksClaimsAt t ages run q → p ≡ q

-- so it is in every run
abbrev pub BreaksOnce : TableRows → Type 0
BreaksOnce t = (run : List Event) → OneFirstBreak t run
