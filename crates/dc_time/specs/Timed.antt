-- Timed runs: each event with its time in microseconds, by a clock.
use Rattle.std.specs.Prelude.{◌≡◌, ℕ, suc, Option, List, [], ◌∷◌, ◌++◌, map}
use Rattle.std.specs.List.{flat_map}
use Rattle.dc_bound.specs.Window.{ticks_of}
use Rattle.dc_bound.specs.Run.{stamp}
use Rattle.dc_bound.specs.Places.{each_place}
use Rattle.dc_bound.specs.Turns.{NeverFall}
use Rattle.dc_spans.specs.Spans.{Clock, IsWithinTick}
use Rattle.dc_event.specs.Time.{tick_after}
use Rattle.dc_event.specs.declared.event.Event.{Event}
use Rattle.dc_event.specs.declared.event.Event.TheVariants.{Tick, Arrive, Route, Send}

-- its events
abbrev pub events : List (ℕ × Event) → List Event
events run = map (λ e. e.1) run

-- What happens after k whole ticks happens within tick k. The Tick that ends it comes just when the next one begins
abbrev pub HappensIn : Clock → (k time : ℕ) → Event → Type 0
HappensIn clock k time Tick = time ≡ clock.begins (suc k)
HappensIn clock k time (Arrive w b) = IsWithinTick clock k time
HappensIn clock k time (Route r) = IsWithinTick clock k time
HappensIn clock k time (Send o) = IsWithinTick clock k time

-- each event happens in its tick
abbrev pub InTheirTicks : Clock → List (ℕ × Event) → Type 0
InTheirTicks clock run = (past rest : List (ℕ × Event)) (e : ℕ × Event) → run ≡ past ++ (e ∷ rest) → HappensIn clock (tick_after (events past)) e.0 e.1

-- and times never fall
pub record IsTimed (clock : Clock) (run : List (ℕ × Event)) : Type 0 where
  pub ordered : NeverFall (ticks_of run)
  pub placed : InTheirTicks clock run

-- what f picks of the events, by them and the events before, each with its time
unfoldable pub timed : {X : Type 0} → (List Event → Event → Option X) → List (ℕ × Event) → List (ℕ × X)
timed f run = flat_map (λ xs. xs) (each_place (λ past e. stamp e.0 (f (events past) e.1) []) run)

-- the same by ticks
unfoldable pub ticked : {X : Type 0} → (List Event → Event → Option X) → List Event → List (ℕ × X)
ticked f run = flat_map (λ xs. xs) (each_place (λ past e. stamp (tick_after past) (f past e) []) run)
