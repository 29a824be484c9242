-- The place at which a run first breaks a rule that beginnings keep.
use Rattle.std.proofs.Common.{◌≡◌, ℕ, zero, suc, ◌+◌, ◌≤◌, ◌<◌, List, [], ◌∷◌, ◌++◌, length, take, drop, get_or, refl, sym, ap, ◌∙◌, subst, arith, take-append-drop, add-one}
use Rattle.std.specs.Prelude.{Some, None}
use Rattle.dc_event.specs.Breaks.{IsFirstBreak}
use Rattle.std.proofs.Math.Seq.{take-suc}
use Rattle.dc_bound.specs.Run.{ticks}
use Rattle.dc_event.specs.Time.{ends, tick_after}
use Rattle.dc_event.specs.declared.event.Event.{Event}
use Rattle.dc_event.specs.declared.event.Event.TheVariants.{Tick, Arrive, Route, Send}

take-shorter : {X : Type 0} (m i : ℕ) (xs : List X) → m ≤ i → take m (take i xs) ≡ take m xs
take-shorter zero i xs h = refl
take-shorter (suc m) zero xs h = absurd (omega arith)
take-shorter (suc m) (suc i) [] h = refl
take-shorter (suc m) (suc i) (x ∷ xs) h = ap (λ r. x ∷ r) (take-shorter m i xs (omega arith))

module _ (P : List Event → Type 0) (beginning : (past rest : List Event) → P (past ++ rest) → P past) where
  keeps-take : (m : ℕ) (run : List Event) → P run → P (take m run)
  keeps-take m run h = beginning (take m run) (drop m run) (subst P (sym (take-append-drop m run)) h)

  pub never-breaks : (run : List Event) → P run → IsFirstBreak P run None
  never-breaks run h = λ m l. keeps-take m run h

  pub breaks-at : (run : List Event) (i : ℕ) (e : Event) → i < length run → take (suc i) run ≡ take i run ++ e ∷ [] → P (take i run) → ¬ P (take i run ++ e ∷ []) → IsFirstBreak P run (Some (i + 1))
  breaks-at run i e l next kept broken = record {
    place = (omega arith, omega arith);
    broken = λ h. broken (subst P (ap (λ n. take n run) (add-one i) ∙ next) h);
    kept = λ m less. subst P (take-shorter m i run (omega arith)) (keeps-take m (take i run) kept);
  }

-- a run has no more ticks than events
ends-le : (e : Event) → ends e ≤ 1
ends-le Tick = omega arith
ends-le (Arrive w b) = omega arith
ends-le (Route r) = omega arith
ends-le (Send o) = omega arith

pub ticks-le : (run : List Event) → tick_after run ≤ length run
unfolding ticks
ticks-le [] = omega arith
ticks-le (e ∷ run) = omega (arith, ends-le e, ticks-le run)

-- the events up to place i, and the next
pub next-place : (run : List Event) (i : ℕ) (e : Event) → i < length run → e ≡ get_or run i e → take (suc i) run ≡ take i run ++ e ∷ []
next-place run i e h is = take-suc run i e h ∙ ap (λ x. take i run ++ x ∷ []) (sym is)
