-- What is carried along a run of its claims, and what is said of one more event.
use Rattle.std.specs.Prelude.{◌≡◌, ℕ, ◌<◌, Bool, true, false, Option, Some, None, List, [], ◌∷◌, ◌++◌, length, if◌then◌else◌, not, slice_index, MatchBool}
use Rattle.dc_tables.specs.TableRows.{TableRows, label_row}
use Rattle.dc_event.specs.Alive.{IsAlive, AreUsable}
use Rattle.dc_event.specs.Breaks.{ClaimAt}
use Rattle.dc_event.specs.Choice.{chosen_source}
use Rattle.dc_event.specs.ClaimNumber.{claim_number}
use Rattle.dc_event.specs.Claims.{Claims}
use Rattle.dc_event.specs.Time.{tick_after}
use Rattle.dc_event.specs.declared.event.Event.{Event}
use Rattle.dc_event.specs.declared.event.Claim.{Claim}
use Rattle.dc_event.specs.declared.event.Claim.TheVariants.{NoOverrun, DataAge, LiveSource, Interval}
use Rattle.dc_event.specs.declared.event.Reply.{Reply}
use Rattle.dc_event.specs.declared.event.Reply.TheVariants.{Queued, BadParity, Undeclared, TooEarly, Overrun, Latched, Took, Empty, Sent, Idle, Now}
use Rattle.dc_oracle.specs.declared.arrivals.ArrivalWatch.{ArrivalWatch}
use Rattle.dc_oracle.specs.declared.claim_watch.ClaimWatch.{ClaimWatch}
use Rattle.dc_oracle.specs.declared.replies.ReplyWatch.{ReplyWatch}
use Rattle.dc_oracle.specs.Replies.{IsSized as AreReplies, Holds}
use Rattle.dc_oracle.specs.Police.{Polices}
use Rattle.dc_oracle.specs.Arrivals.{IsSized as AreArrivals, Follows}
use Rattle.dc_oracle.specs.Emissions.{IsSized as AreEmissions, Emits}

-- the answer is whether the statement holds
abbrev pub IsWhether : (holds : Type 0) → Bool → Type 0
IsWhether holds answer = MatchBool answer holds (holds → ⊥)

-- whatever the run that the replies and the arrivals stand for, the answer is whether the statement holds of it
abbrev pub AnswersWhether : TableRows → ReplyWatch → ArrivalWatch → (holds : List Event → Type 0) → Bool → Type 0
AnswersWhether t replies arrivals holds answer = (now : List Event) → Holds t replies now → Follows t arrivals now → IsWhether (holds now) answer

-- whatever the run that the arrivals stand for, where this is its tick and the label's choice after it, the answer is whether the statement holds of it
abbrev pub AnswersChoice : TableRows → ArrivalWatch → (label tick : ℕ) → Option (ℕ × ℕ) → (holds : List Event → Type 0) → Bool → Type 0
AnswersChoice t arrivals label tick choice holds answer =
    (now : List Event) → Follows t arrivals now → tick ≡ tick_after now → choice ≡ chosen_source t label now → IsWhether (holds now) answer

-- whether the source is alive for the label, and its words are usable
abbrev pub IsGood : TableRows → (label source : ℕ) → List Event → Bool → Type 0
IsGood t x s now answer = MatchBool answer (IsAlive t x s now × AreUsable t x s now) (IsAlive t x s now → AreUsable t x s now → ⊥)

-- whether some source of the label is alive, and its words are usable
abbrev pub IsAnyGood : TableRows → ℕ → List Event → Bool → Type 0
IsAnyGood t x now true = (k : ℕ) × (k < length (label_row t x).sources) × IsAlive t x (slice_index (label_row t x).sources k) now × AreUsable t x (slice_index (label_row t x).sources k) now
IsAnyGood t x now false = (k : ℕ) → k < length (label_row t x).sources → IsAlive t x (slice_index (label_row t x).sources k) now → AreUsable t x (slice_index (label_row t x).sources k) now → ⊥

-- whether a reply is no overrun
abbrev pub fits : Reply → Bool
fits (Queued n) = true
fits BadParity = true
fits Undeclared = true
fits TooEarly = true
fits Overrun = false
fits Latched = true
fits (Took w b) = true
fits (Empty b) = true
fits (Sent l w) = true
fits Idle = true
fits (Now n) = true

-- the least claim that fails, by what is known of each
abbrev pub first_of : (fits young live in_time spaced : Bool) → Option Claim
first_of fits young live in_time spaced =
    if not fits then Some NoOverrun
    else if not young then Some DataAge
    else if not live then Some LiveSource
    else if not in_time then Some Interval
    else if not spaced then Some Interval
    else None

-- a part for each row of the tables
pub record IsSized (t : TableRows) (w : ClaimWatch) : Type 0 where
  pub replies : AreReplies t w.replies
  pub paces : length w.police.paces.items ≡ length t.streams
  pub arrivals : AreArrivals t w.arrivals
  pub emissions : AreEmissions t w.emissions

-- each part is that of the run
pub record StandsFor (t : TableRows) (w : ClaimWatch) (run : List Event) : Type 0 where
  pub replies : Holds t w.replies run
  pub police : Polices t w.police run
  pub arrivals : Follows t w.arrivals run
  pub emissions : Emits t w.emissions run

-- the claims hold at the event; or this one fails, and none before it in their order
abbrev pub Judged : TableRows → List ℕ → List Event → Event → Option Claim → Type 0
Judged t ages run e None = Claims t ages run e
Judged t ages run e (Some claim) = (¬ ClaimAt t ages claim run e) × ((other : Claim) → claim_number other < claim_number claim → ClaimAt t ages other run e)

-- the parts are those of the run with the event, and the event is judged
pub record Seen (t : TableRows) (ages : List ℕ) (new : ClaimWatch) (run : List Event) (e : Event) (failed : Option Claim) : Type 0 where
  pub stands : StandsFor t new (run ++ e ∷ [])
  pub judged : Judged t ages run e failed
