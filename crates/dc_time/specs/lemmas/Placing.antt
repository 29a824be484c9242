-- Events in their ticks, from the front.
use Rattle.std.proofs.Common.{◌≡◌, ℕ, ◌+◌, ◌≤◌, List, [], ◌∷◌, ◌++◌, refl, sym, ap, subst, arith, add-zero, add_assoc, suc}
use Rattle.dc_bound.specs.Run.{ticks}
use Rattle.dc_bound.specs.Window.{ticks_of}
use Rattle.dc_bound.specs.Turns.{NeverFall}
use Rattle.dc_spans.specs.Spans.{Clock, KeepsPace, IsWithinTick}
use Rattle.dc_spans.specs.lemmas.Scaling.{rises}
use Rattle.dc_event.specs.Time.{ends, tick_after}
use Rattle.dc_event.specs.declared.event.Event.{Event}
use Rattle.dc_event.specs.declared.event.Event.TheVariants.{Tick, Arrive, Route, Send}
use Rattle.dc_time.specs.Timed.{events, HappensIn, InTheirTicks, IsTimed}

-- each event is in its tick, where the first is in tick k
abbrev pub PlacedFrom : Clock → (k : ℕ) → List (ℕ × Event) → Type 0
PlacedFrom clock k [] = Unit {0}
PlacedFrom clock k (e ∷ run) = HappensIn clock k e.0 e.1 × PlacedFrom clock (k + ends e.1) run

placed_at : (clock : Clock) (k : ℕ) (run past rest : List (ℕ × Event)) (e : ℕ × Event) → run ≡ past ++ (e ∷ rest) → PlacedFrom clock k run → HappensIn clock (k + tick_after (events past)) e.0 e.1
unfolding ticks
placed_at clock k run [] rest e cut h =
    let P : List (ℕ × Event) → Type 0 = λ z. PlacedFrom clock k z in
    let Q : ℕ → Type 0 = λ k. HappensIn clock k e.0 e.1 in
    subst Q (sym (add-zero k)) (subst P cut h).0
placed_at clock k run (x ∷ past) rest e cut h =
    let P : List (ℕ × Event) → Type 0 = λ z. PlacedFrom clock k z in
    let Q : ℕ → Type 0 = λ k. HappensIn clock k e.0 e.1 in
    subst Q (add_assoc k (ends x.1) (tick_after (events past))) (placed_at clock (k + ends x.1) (past ++ (e ∷ rest)) past rest e refl (subst P cut h).1)

pub placed-from : (clock : Clock) (run : List (ℕ × Event)) → PlacedFrom clock 0 run → InTheirTicks clock run
placed-from clock run h past rest e cut =
    let P : ℕ → Type 0 = λ k. HappensIn clock k e.0 e.1 in
    let z : 0 + tick_after (events past) ≡ tick_after (events past) = omega arith in
    subst P z (placed_at clock 0 run past rest e cut h)

-- ---- each run has times

-- a Tick as the next tick begins, any other event as its own does
abbrev at_time : Clock → ℕ → Event → ℕ
at_time clock k e = clock.begins (k + ends e)

abbrev clocked : Clock → ℕ → List Event → List (ℕ × Event)
clocked clock k [] = []
clocked clock k (e ∷ run) = (at_time clock k e, e) ∷ clocked clock (k + ends e) run

clocked-events : (clock : Clock) (k : ℕ) (run : List Event) → events (clocked clock k run) ≡ run
clocked-events clock k [] = refl
clocked-events clock k (e ∷ run) = ap (λ z. e ∷ z) (clocked-events clock (k + ends e) run)

module _ (clock : Clock) (paced : KeepsPace clock) where
  within_it : (k : ℕ) → IsWithinTick clock k (clock.begins (k + 0))
  within_it k = let z : k + 0 ≡ k = omega arith in record { from = omega (arith, ap clock.begins z); to = omega (arith, ap clock.begins z, paced.no_less k, paced.some) }

  one_placed : (k : ℕ) (e : Event) → HappensIn clock k (at_time clock k e) e
  one_placed k Tick = let z : k + 1 ≡ suc k = omega arith in ap clock.begins z
  one_placed k (Arrive w b) = within_it k
  one_placed k (Route r) = within_it k
  one_placed k (Send o) = within_it k

  clocked-placed : (k : ℕ) (run : List Event) → PlacedFrom clock k (clocked clock k run)
  clocked-placed k [] = tt
  clocked-placed k (e ∷ run) = (one_placed k e, clocked-placed (k + ends e) run)

  front : (k time : ℕ) (run : List Event) → time ≤ clock.begins k → NeverFall (time ∷ ticks_of (clocked clock k run))
  unfolding NeverFall
  front k time [] h = tt
  front k time (e ∷ run) h = (omega (arith, h, rises clock paced k (k + ends e) (omega arith)), front (k + ends e) (at_time clock k e) run (omega arith))

  clocked-ordered : (k : ℕ) (run : List Event) → NeverFall (ticks_of (clocked clock k run))
  unfolding NeverFall
  clocked-ordered k [] = tt
  clocked-ordered k (e ∷ run) = front (k + ends e) (at_time clock k e) run (omega arith)

  pub runs-have_times : (run : List Event) → (timed_run : List (ℕ × Event)) × (events timed_run ≡ run) × IsTimed clock timed_run
  runs-have_times run = (clocked clock 0 run, clocked-events clock 0 run, record { ordered = clocked-ordered 0 run; placed = placed-from clock (clocked clock 0 run) (clocked-placed 0 run) })
