-- What `trace` answers to the texts of tables and of a capture.
use Rattle.std.specs.Prelude.{◌≡◌, ℕ, Option, Some, None, List, [], ◌∷◌, Result}
use Rattle.dc_answer.specs.Answer.{Answer, Ends, Reported, WholeOrNone, after_all, fault, nothing}
use Rattle.dc_answer.specs.Exits.{is_answered, is_whole}
use Rattle.dc_answer.specs.Inputs.{AnswersTables}
use Rattle.dc_answer.specs.declared.answer.Failure.{Failure}
use Rattle.dc_answer.specs.declared.exit.Exit.{Exit}
use Rattle.dc_answer.specs.declared.exit.Outcome.{Outcome}
use Rattle.dc_capture.specs.CaptureFaults.{capture_rule_code}
use Rattle.dc_capture.specs.CaptureText.{Capture}
use Rattle.dc_capture.specs.Reading.{capture_from}
use Rattle.dc_capture.specs.declared.capture_lines.TheConstants.{CAPTURE_LIMIT}
use Rattle.dc_capture.specs.declared.fault.CaptureFault.{CaptureFault}
use Rattle.dc_run_trace.specs.Lines.{run_text}
use Rattle.dc_tables.specs.TableRows.{TableRows}
use Rattle.dc_trace.specs.Traces.{traced}

-- ---- the run of a capture

-- the least time that a capture may have: that at which tick 0 is to begin, where it was said
abbrev pub least_time : Option ℕ → ℕ
least_time None = 0
least_time (Some from) = from

-- the capture that a text says; a time before tick 0 is one that falls
abbrev pub recorded : TableRows → Option ℕ → List ℕ → Capture
recorded t from text = capture_from t CAPTURE_LIMIT 1 (least_time from) text

-- when tick 0 begins: as was said, else with the first word
abbrev pub begin_of : Option ℕ → List (ℕ × (ℕ × ℕ)) → ℕ
begin_of (Some from) words = from
begin_of None [] = 0
begin_of None (x ∷ xs) = x.0

-- ---- the answer

-- what stands behind the words: nothing, or the line of the fault
abbrev pub capture_end : Option CaptureFault → Answer
capture_end None = nothing
capture_end (Some f) = fault (capture_rule_code f.rule) f.line

-- the answer to a capture: the text of its run, and its end
abbrev pub trace_answer : TableRows → Option ℕ → Capture → Answer
trace_answer t from c = after_all (run_text t (traced t (begin_of from c.words) c.words)) (capture_end c.fault)

-- to the texts behind that of the tables: the first is the capture
abbrev pub AnswersCapture : Option ℕ → TableRows → List (List ℕ) → Answer → Type 0
AnswersCapture from t [] answer = ⊥
AnswersCapture from t (text ∷ texts) answer = answer ≡ trace_answer t from (recorded t from text)

-- to both texts: the tables are judged first
abbrev pub AnswersTrace : Option ℕ → List ℕ → List ℕ → Answer → Type 0
AnswersTrace from tables capture = AnswersTables (AnswersCapture from) (tables ∷ capture ∷ [])

-- ---- what is written

-- until something fails: what is written of the answer to a capture
abbrev pub WritesCapture : TableRows → Option ℕ → List ℕ → Option (List ℕ) → Option (List ℕ) → Result Outcome Failure → Type 0
WritesCapture t from text old new result = Ends old [] new (trace_answer t from (recorded t from text)) result

-- and of the answer to both texts
abbrev pub WritesTrace : Option ℕ → List ℕ → List ℕ → Option (List ℕ) → Option (List ℕ) → Result Outcome Failure → Type 0
WritesTrace from tables capture old new result =
    (answer : Answer) × WholeOrNone (AnswersTrace from tables capture) (is_whole result) answer × Ends old [] new answer result

-- What `trace` reports, where its sources and its sink failed so often before and after it
abbrev pub ReportsTrace : Option ℕ → List ℕ → List ℕ → Option (List ℕ) → Option (List ℕ) → ℕ → ℕ → ℕ → ℕ → Exit → Type 0
ReportsTrace from tables capture old new sources sources' sink sink' exit =
    Reported (WholeOrNone (AnswersTrace from tables capture) (is_answered exit)) old new sources sources' sink sink' exit
