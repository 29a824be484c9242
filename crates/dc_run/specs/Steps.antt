-- The events of a trace, carried out one after the other.
use Rattle.std.specs.Prelude.{◌≡◌, ◌+◌, List, [], ◌∷◌, ◌++◌, length, Result, Ok, Err}
use Rattle.dc_tables.specs.TableRows.{TableRows}
use Rattle.dc_event.specs.Replies.{reply}
use Rattle.dc_event.specs.Time.{tick_after}
use Rattle.dc_event.specs.declared.event.Event.{Event}
use Rattle.dc_core.specs.CoreSteps.{CoreStandsFor}
use Rattle.dc_core.specs.Standing.{IsFault, MayFollow}
use Rattle.dc_run.specs.declared.steps.Progress.{Progress}
use Rattle.dc_run.specs.declared.steps.Refusal.{Refusal}
use Rattle.dc_run.specs.declared.steps.Step.{Step}

-- the concentrator has carried out these events, each of a line
pub record StandsAt (p : Progress) (done : List Event) : Type 0 where
  pub stands : CoreStandsFor p.core done
  pub clock : p.tick ≡ tick_after done
  pub count : p.number ≡ length done + 1

-- the event may follow, and has been carried out; or it may not, and why
abbrev pub Steps : TableRows → Progress → List Event → Event → Result Step Refusal → Type 0
Steps t new done e (Ok step) = MayFollow t done e × StandsAt new (done ++ e ∷ []) × (step ≡ record { tick = tick_after (done ++ e ∷ []); event = e; reply = reply t done e })
Steps t new done e (Err r) = (¬ MayFollow t done e) × IsFault t done e r.fault × (r.event ≡ e) × (r.number ≡ length done + 1)
