-- What `replay` answers to the texts of tables and of a trace.
use Rattle.std.specs.Prelude.{◌≡◌, ◌⊎◌, ℕ, ◌+◌, Bool, true, false, IfSome, Option, Some, List, [], ◌∷◌, ◌++◌, length, Result, Ok, Err}
use Rattle.std.specs.Io.KnownBytes.{Appends}
use Rattle.dc_device.specs.Lines.{spelled}
use Rattle.dc_tables.specs.TableRows.{TableRows}
use Rattle.dc_document.specs.declared.fault.BuildError.{BuildError}
use Rattle.dc_document.specs.declared.fault.BuildError.TheVariants.{Refused, Memory}
use Rattle.dc_toml.specs.Reading.{tables_of}
use Rattle.dc_build.specs.Reported.{AreTablesOf, TellsTables}
use Rattle.dc_event.specs.ReplyText.{run_lines}
use Rattle.dc_event.specs.TraceText.{Trace, ended_by, trace_of}
use Rattle.dc_event.specs.declared.event.Event.{Event}
use Rattle.dc_event.specs.declared.trace.TraceFault.{TraceFault}
use Rattle.dc_core.specs.Standing.{IsFault, MayFollow}
use Rattle.dc_core.specs.declared.fault.StepFault.{StepFault}
use Rattle.dc_answer.specs.declared.answer.Failure.{Failure}
use Rattle.dc_answer.specs.declared.exit.Exit.{Exit}
use Rattle.dc_answer.specs.declared.exit.Outcome.{Outcome}
use Rattle.dc_answer.specs.Answer.{Answer, Ends, Reported, after_all}
use Rattle.dc_answer.specs.Exits.{is_answered, is_whole}
use Rattle.dc_answer.specs.Inputs.{tables_end}
use Rattle.dc_run.specs.Refusals.{refused, trace_end}

-- each event may follow those before it, where `past` stands before the first
abbrev pub AllFollow : TableRows → List Event → List Event → Type 0
AllFollow t past [] = Unit {0}
AllFollow t past (e ∷ rest) = MayFollow t past e × AllFollow t (past ++ e ∷ []) rest

-- How a replay ends that has carried out `done`: by the end of the trace or its fault; or by the refusal of the next
-- event, which may not follow. Its line is the one after those of `done`.
abbrev pub EndsBy : TableRows → List Event → List Event → Option TraceFault → Answer → Type 0
EndsBy t done [] fault last = last ≡ trace_end fault
EndsBy t done (e ∷ rest) fault last = (f : StepFault) × (¬ MayFollow t done e) × IsFault t done e f × (last ≡ refused t e f (length done + 1))

-- the end, where the replay got to it; else it or no line more
abbrev pub GoesOn : Bool → TableRows → List Event → List Event → Option TraceFault → Answer → Type 0
GoesOn true t done rest fault last = EndsBy t done rest fault last
GoesOn false t done rest fault last = EndsBy t done rest fault last ⊎ (last.lines ≡ [])

-- The answer to a trace: the lines of the events that were carried out, as many as may follow one another, and the end.
-- Where it is not whole, a beginning of that.
pub record Replays (t : TableRows) (all : Bool) (trace : Trace) (whole : Bool) (answer : Answer) : Type 0 where
  pub done : List Event
  pub rest : List Event
  pub last : Answer
  pub events : trace.events ≡ done ++ rest
  pub follow : AllFollow t [] done
  pub goes_on : GoesOn whole t done rest trace.fault last
  pub said : answer ≡ after_all (run_lines t all done) last

-- the answer to the text of a trace of at most so many bytes, where the tables read so
abbrev pub AnswersTrace : ℕ → Bool → List ℕ → Bool → Answer → Result TableRows BuildError → Type 0
AnswersTrace limit all text whole answer (Ok t) = Replays t all (trace_of t limit text) whole answer
AnswersTrace limit all text whole answer (Err (Refused f)) = answer ≡ tables_end f
AnswersTrace limit all text whole answer (Err (Memory e)) = ⊥

-- the answer to the texts of tables and of a trace
abbrev pub AnswersTexts : ℕ → Bool → List ℕ → List ℕ → Bool → Answer → Type 0
AnswersTexts limit all tables text whole answer = (read : Result TableRows BuildError) × TellsTables (tables_of tables) read × AnswersTrace limit all text whole answer read

-- what `replay` answers: where it is not whole, a beginning of that, or no line
abbrev pub ReplayAnswers : ℕ → Bool → List ℕ → List ℕ → Bool → Answer → Type 0
ReplayAnswers limit all tables text true answer = AnswersTexts limit all tables text true answer
ReplayAnswers limit all tables text false answer = AnswersTexts limit all tables text false answer ⊎ (answer.lines ≡ [])

-- ---- what is written

-- until something fails: what is written of the answer to a trace
abbrev pub WritesTrace : TableRows → ℕ → Bool → List ℕ → Option (List ℕ) → Option (List ℕ) → Result Outcome Failure → Type 0
WritesTrace t limit all text old new result = (answer : Answer) × Replays t all (trace_of t limit text) (is_whole result) answer × Ends old [] new answer result

-- and of the answer to both texts
abbrev pub WritesReplay : ℕ → Bool → List ℕ → List ℕ → Option (List ℕ) → Option (List ℕ) → Result Outcome Failure → Type 0
WritesReplay limit all tables text old new result = (answer : Answer) × ReplayAnswers limit all tables text (is_whole result) answer × Ends old [] new answer result

-- What `replay` reports, where its sources and its sink failed so often before and after it
abbrev pub ReportsReplay : ℕ → Bool → List ℕ → List ℕ → Option (List ℕ) → Option (List ℕ) → ℕ → ℕ → ℕ → ℕ → Exit → Type 0
ReportsReplay limit all tables text old new sources sources' sink sink' exit =
    Reported (ReplayAnswers limit all tables text (is_answered exit)) old new sources sources' sink sink' exit

-- ---- what is shown

-- The events that are due where a trace has come up to here: those of all its whole lines, none of which is faulty, and each
-- may follow. Behind them stand at most the bytes of a line that is not ended.
abbrev pub AreDue : TableRows → ℕ → List ℕ → List Event → Type 0
AreDue t limit text events =
    (number : ℕ) × (rest : List ℕ) × (trace_of t limit text ≡ record { events = events; fault = (ended_by number rest).fault }) × AllFollow t [] events

-- what everyone saw is the lines of the events that are due
abbrev pub ShowsTrace : TableRows → ℕ → Bool → List ℕ → Option (List ℕ) → Option (List ℕ) → Type 0
ShowsTrace t limit all text old seen = (events : List Event) × AreDue t limit text events × IfSome seen (λ bytes. Appends old (Some bytes) (spelled (run_lines t all events)))

-- What everyone saw when a trace was asked for more behind its end: the lines of the events that are due. Any beginning of a
-- trace is one that ends there, so each line is seen before what follows its event is asked for.
abbrev pub IsPrompt : ℕ → Bool → List ℕ → List ℕ → Option (List ℕ) → Option (List ℕ) → Type 0
IsPrompt limit all tables text old seen = (t : TableRows) × AreTablesOf (tables_of tables) t × ShowsTrace t limit all text old seen
