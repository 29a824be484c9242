-- What an engine answers call by call, and the run that its calls are.
use Rattle.std.specs.Prelude.{◌≡◌, ◌&&◌, nat_le, Bool, false, List, [], ◌∷◌, ◌++◌, filter, map, Result, Ok, Err}
use Rattle.dc_cert.specs.Bounds.{numbers_of}
use Rattle.dc_check.specs.Certified.{KeepsItsClaims}
use Rattle.dc_core.specs.Standing.{MayFollow, IsFault}
use Rattle.dc_core.specs.declared.fault.StepFault.{StepFault}
use Rattle.dc_event.specs.Admissible.{IsRun, KeepsSources, KeepsBudgets}
use Rattle.dc_event.specs.Claims.{ClaimsHold}
use Rattle.dc_event.specs.Replies.{outputs_of}
use Rattle.dc_event.specs.declared.event.Event.{Event}
use Rattle.dc_event.specs.declared.event.Reply.{Reply}
use Rattle.dc_tables.specs.TableRows.{TableRows}
use Rattle.dc_engine.specs.Answers.{answer_of}
use Rattle.dc_engine.specs.Engine.{rows_of, claims_of, StandsForRun, StepsOn}
use Rattle.dc_engine.specs.declared.answer.Answer.{Answer}
use Rattle.dc_engine.specs.declared.engine.Engine.{Engine}

-- a call that was made of an engine: its event, and what was answered
pub record Call : Type 0 where
  pub event : Event
  pub answer : Answer

-- each call is a step of the engine that the call before it left, and was answered what the step says; the last one leaves `new`
abbrev pub AreCalls : Engine → List Call → Engine → Type 0
AreCalls old [] new = new ≡ old
AreCalls old (call ∷ calls) new = (next : Engine) × (outcome : Result Reply StepFault) × StepsOn old next call.event outcome × (call.answer ≡ answer_of outcome) × AreCalls next calls new

-- whether an answer is a reply: the call was carried out
abbrev pub is_reply : Answer → Bool
is_reply a = nat_le 1 a.kind && nat_le a.kind 11

-- the calls that were carried out
abbrev pub carried_out : List Call → List Call
carried_out calls = filter (λ c. is_reply c.answer) calls

-- the run that calls are: the events that were carried out, in order
abbrev pub run_of : List Call → List Event
run_of calls = map (λ c. c.event) (carried_out calls)

-- what was answered to them
abbrev pub replies_to : List Call → List Answer
replies_to calls = map (λ c. c.answer) (carried_out calls)

-- the outputs of a run, as answers
abbrev pub answers_of_run : TableRows → List Event → List Answer
answers_of_run t run = map (λ r. answer_of (Ok r)) (outputs_of t run)

-- the call was refused, since its event may not follow the run; why not, the answer tells
pub record IsRefusedAfter (t : TableRows) (run : List Event) (call : Call) : Type 0 where
  pub may_not : ¬ MayFollow t run call.event
  pub fault : StepFault
  pub is : IsFault t run call.event fault
  pub told : call.answer ≡ answer_of (Err fault)

-- What was carried out is a run of these tables that keeps the budgets, what was answered to it are its outputs, and each other call was refused
-- after the run of those before it
pub record AreOutputs (t : TableRows) (calls : List Call) : Type 0 where
  pub numbers : IsRun t (run_of calls)
  pub budgets : KeepsBudgets t (run_of calls)
  pub answers : replies_to calls ≡ answers_of_run t (run_of calls)
  pub refused : (before after : List Call) (call : Call) → calls ≡ before ++ call ∷ after → is_reply call.answer ≡ false → IsRefusedAfter t (run_of before) call

-- whatever is called of an engine that stands for the empty run
abbrev pub AnswersAreOutputs : Type 0
AnswersAreOutputs = (old new : Engine) (calls : List Call) → StandsForRun old [] → AreCalls old calls new → AreOutputs (rows_of old) calls

-- and where the run of the calls keeps what is asked of the sources, the claims of the engine's certificate hold for it
abbrev pub ClaimsHoldForCalls : Type 0
ClaimsHoldForCalls =
    (old new : Engine) (calls : List Call) → StandsForRun old [] → KeepsItsClaims (rows_of old) (claims_of old) → AreCalls old calls new
    → KeepsSources (rows_of old) (run_of calls) → ClaimsHold (rows_of old) (numbers_of (claims_of old)).ages (run_of calls)
