-- The last line of a replay.
use Rattle.std.specs.Prelude.{◌≡◌, ◌≢◌, ℕ, Result, Ok, Err, Option, Some, None, List, [], ◌∷◌, ◌++◌, codes, decimal}
use Rattle.dc_tables.specs.TableRows.{TableRows}
use Rattle.dc_event.specs.ReplyText.{name_at}
use Rattle.dc_event.specs.declared.event.Actor.{Actor}
use Rattle.dc_event.specs.declared.event.Actor.TheVariants.{Wire, Router, Output, Clock}
use Rattle.dc_event.specs.declared.event.Event.{Event}
use Rattle.dc_event.specs.declared.event.Event.TheVariants.{Route, Send}
use Rattle.dc_event.specs.TraceFaults.{line_rule_code}
use Rattle.dc_event.specs.declared.trace.TraceFault.{TraceFault}
use Rattle.dc_event.specs.declared.trace.TraceStop.{TraceStop}
use Rattle.dc_event.specs.declared.trace.TraceStop.TheVariants.{End, Fault, Broken}
use Rattle.dc_core.specs.FaultText.{step_fault_code}
use Rattle.dc_core.specs.declared.fault.StepFault.{StepFault}
use Rattle.dc_core.specs.declared.fault.StepFault.TheVariants.{Spent, TooSoon, Owed}
use Rattle.dc_answer.specs.declared.answer.Failure.{Failure}
use Rattle.dc_answer.specs.declared.answer.Failure.TheVariants.{Source, Sink, Memory}
use Rattle.dc_answer.specs.declared.exit.Outcome.{Outcome}
use Rattle.dc_answer.specs.declared.exit.Outcome.TheVariants.{Refused}
use Rattle.dc_answer.specs.Answer.{Answer, fault, nothing, one_line}

-- after the events of a trace: nothing, or its fault
abbrev pub trace_end : Option TraceFault → Answer
trace_end None = nothing
trace_end (Some f) = fault (line_rule_code f.rule) f.line

-- where a reader of a trace stops
abbrev pub stop_end : TraceStop → Answer
stop_end End = nothing
stop_end (Fault f) = fault (line_rule_code f.rule) f.line
stop_end Broken = nothing

-- a result after a reader's stop: it tells of a failed source exactly where the reader does
abbrev pub StopsBy : TraceStop → Result Outcome Failure → Type 0
StopsBy stop (Ok outcome) = stop ≢ Broken
StopsBy stop (Err Source) = stop ≡ Broken
StopsBy stop (Err Sink) = Unit {0}
StopsBy stop (Err Memory) = ⊥

-- the name of a router or an output; nothing of a wire or of the clock
abbrev pub actor_name : TableRows → Actor → List ℕ
actor_name t (Wire b) = []
actor_name t (Router r) = name_at t.names.routers r
actor_name t (Output o) = name_at t.names.outputs o
actor_name t Clock = []

-- the actor that an event is refused for, after a space
abbrev pub culprit_text : TableRows → StepFault → Event → List ℕ
culprit_text t Spent (Route r) = codes " " ++ name_at t.names.routers r
culprit_text t TooSoon (Send o) = codes " " ++ name_at t.names.outputs o
culprit_text t (Owed a) e = codes " " ++ actor_name t a
culprit_text t _ e = []

-- why an event is refused
abbrev pub cause_text : TableRows → StepFault → Event → List ℕ
cause_text t f e = step_fault_code f ++ culprit_text t f e

-- the line of the event of this line's number that is refused
unfoldable pub refused_text : TableRows → Event → StepFault → ℕ → List ℕ
refused_text t e f number = codes "refused " ++ cause_text t f e ++ codes " at line " ++ decimal number

-- the answer to the event of this line that is refused: its line alone, and refused
abbrev pub refused : TableRows → Event → StepFault → ℕ → Answer
refused t e f number = one_line (refused_text t e f number) Refused
