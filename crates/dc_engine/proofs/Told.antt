-- Each reply and refusal is told by its answer.
use Rattle.std.proofs.Common.{◌≡◌, refl, Some, Result, Ok, Err}
use Rattle.dc_core.specs.declared.fault.StepFault.{StepFault}
use Rattle.dc_core.specs.declared.fault.StepFault.TheVariants.{Spent, TooSoon, Owed, TickLimit, Unknown}
use Rattle.dc_event.specs.declared.event.Actor.TheVariants.{Wire, Router, Output, Clock}
use Rattle.dc_event.specs.declared.event.Reply.{Reply}
use Rattle.dc_event.specs.declared.event.Reply.TheVariants.{Queued, BadParity, Undeclared, TooEarly, Overrun, Latched, Took, Empty, Sent, Idle, Now}
use Rattle.dc_engine.specs.Answers.{answer_of, told}

pub told_back : (r : Result Reply StepFault) → told (answer_of r) ≡ Some r
told_back (Ok (Queued backlog)) = refl
told_back (Ok BadParity) = refl
told_back (Ok Undeclared) = refl
told_back (Ok TooEarly) = refl
told_back (Ok Overrun) = refl
told_back (Ok Latched) = refl
told_back (Ok (Took word bus)) = refl
told_back (Ok (Empty bus)) = refl
told_back (Ok (Sent label word)) = refl
told_back (Ok Idle) = refl
told_back (Ok (Now tick)) = refl
told_back (Err Spent) = refl
told_back (Err TooSoon) = refl
told_back (Err (Owed (Wire bus))) = refl
told_back (Err (Owed (Router router))) = refl
told_back (Err (Owed (Output output))) = refl
told_back (Err (Owed Clock)) = refl
told_back (Err TickLimit) = refl
told_back (Err Unknown) = refl
