-- From what the engine does to what a call from C does.
use Rattle.std.proofs.Common.{◌≡◌, ◌⊎◌, inl, inr, ℕ, List, sym, subst, Bool, false, Option, Some, None, Result, Err}
use Rattle.dc_core.specs.declared.fault.StepFault.{StepFault}
use Rattle.dc_event.specs.declared.event.Event.{Event}
use Rattle.dc_event.specs.declared.event.Reply.{Reply}
use Rattle.dc_engine.specs.Answers.{answer_of, report_of}
use Rattle.dc_engine.specs.Engine.{StepsOn}
use Rattle.dc_engine.specs.Opening.{Opens}
use Rattle.dc_engine.specs.declared.answer.Answer.{Answer}
use Rattle.dc_engine.specs.declared.engine.Engine.{Engine}
use Rattle.dc_engine.specs.declared.fault.OpenFault.{OpenFault}
use Rattle.dc_engine.specs.declared.fault.OpenFault.TheVariants.{Memory}
use Rattle.dc_engine.specs.declared.fault.Report.{Report}
use Rattle.dc_embed.specs.Slots.{Steps, OpensSlot, status_of}

-- a step of the engine that was taken out, and put back
pub stepped : (was now : Option Engine) (old new : Engine) (event : Event) (outcome : Result Reply StepFault) (answer : Answer) (status : ℕ)
    → was ≡ Some old → now ≡ Some new → StepsOn old new event outcome → answer ≡ answer_of outcome → status ≡ status_of outcome → Steps was now event answer status
stepped was now old new event outcome answer status taken put steps told carried =
    subst (λ w. Steps w now event answer status) (sym taken) (record { engine = new; outcome = outcome; still = put; steps = steps; told = told; carried = carried })

-- an engine that was not opened, or found no memory for its box
pub not_opened : (tables certificate : List ℕ) (opened : Result Engine OpenFault) (new : Option Engine) (fault : OpenFault) (report : Report) (answer : Bool)
    → Opens tables certificate opened → (opened ≡ Err fault) ⊎ (fault ≡ Memory) → new ≡ None → report ≡ report_of fault → answer ≡ false → OpensSlot tables certificate new report answer
not_opened tables certificate opened new fault report answer opens (inl same) closed told false_is =
    record { opened = Err fault; opens = subst (λ o. Opens tables certificate o) same opens; told = (closed, told, false_is) }
not_opened tables certificate opened new fault report answer opens (inr memory) closed told false_is =
    record { opened = Err fault; opens = subst (λ f. Opens tables certificate (Err f)) (sym memory) tt; told = (closed, told, false_is) }
