-- A step of the concentrator, as a step of its progress.
use Rattle.std.proofs.Common.{◌≡◌, ℕ, ◌+◌, List, [], ◌∷◌, ◌++◌, length-append, refl, sym, ◌∙◌, ap, subst, arith, Ok, Err}
use Rattle.dc_bound.specs.Run.{ticks}
use Rattle.dc_tables.specs.TableRows.{TableRows}
use Rattle.dc_event.specs.Replies.{reply}
use Rattle.dc_event.specs.lemmas.RunPush.{tick-push}
use Rattle.dc_event.specs.Time.{ends, tick_after}
use Rattle.dc_event.specs.declared.event.Event.{Event}
use Rattle.dc_event.specs.declared.event.Reply.{Reply}
use Rattle.dc_core.specs.CoreSteps.{CoreStandsFor, CoreStepsTo, rows_of}
use Rattle.dc_core.specs.Standing.{IsFault, MayFollow}
use Rattle.dc_core.specs.declared.concentrator.Core.{Core}
use Rattle.dc_core.specs.declared.fault.StepFault.{StepFault}
use Rattle.dc_run.specs.Steps.{StandsAt, Steps}
use Rattle.dc_run.specs.declared.steps.Progress.{Progress}
use Rattle.dc_run.specs.declared.steps.Step.{Step}

pub carried : (t : TableRows) (p : Progress) (core : Core) (tick : ℕ) (done : List Event) (e : Event) (r : Reply)
    → rows_of core ≡ t → StandsAt p done → CoreStepsTo core done e (Ok r) → tick ≡ p.tick + ends e
    → Steps t (record { core = core; tick = tick; number = p.number + 1 }) done e (Ok (record { tick = tick; event = e; reply = r }))
carried t p core tick done e r same at (may, stands, replied) next =
    let clock : tick ≡ tick_after (done ++ e ∷ []) = omega (arith, tick-push done e, at.clock, next) in
    let now : Reply = reply t done e in
    let reported : r ≡ now = replied ∙ ap (λ t. reply t done e) same in (
      subst (λ t. MayFollow t done e) same may,
      record { stands = stands; clock = clock; count = omega (arith, at.count, length-append done (e ∷ [])) },
      ap (λ k. let s : Step = record { tick = k; event = e; reply = r } in s) clock
          ∙ ap (λ r. let s : Step = record { tick = tick_after (done ++ e ∷ []); event = e; reply = r } in s) reported,
    )

pub declined : (t : TableRows) (p new : Progress) (core : Core) (done : List Event) (e : Event) (f : StepFault)
    → rows_of core ≡ t → StandsAt p done → CoreStepsTo core done e (Err f)
    → Steps t new done e (Err (record { event = e; fault = f; number = p.number }))
declined t p new core done e f same at (never, is) =
    (λ may. never (subst (λ t. MayFollow t done e) (sym same) may), subst (λ t. IsFault t done e f) same is, refl, at.count)

-- before any event
pub stands_first : (core : Core) → CoreStandsFor core [] → StandsAt (record { core = core; tick = 0; number = 1 }) []
unfolding ticks
stands_first core stands = record { stands = stands; clock = refl; count = refl }
