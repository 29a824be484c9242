-- What `survey` answers to the texts of tables and of a capture.
use Rattle.std.specs.Prelude.{◌≡◌, ℕ, ◌<◌, ◌||◌, if◌then◌else◌, Option, Some, None, List, [], ◌∷◌, length, Result, Ok, Err}
use Rattle.dc_answer.specs.Answer.{Answer, Reported, WholeOrNone}
use Rattle.dc_answer.specs.Exits.{is_answered}
use Rattle.dc_answer.specs.Inputs.{AnswersWritten}
use Rattle.dc_answer.specs.declared.exit.Exit.{Exit}
use Rattle.dc_answer.specs.declared.exit.Outcome.{Outcome}
use Rattle.dc_answer.specs.declared.exit.Outcome.TheVariants.{Done, Refused, Unreadable}
use Rattle.dc_answer.specs.declared.judge.Unjudged.{Unjudged}
use Rattle.dc_answer.specs.declared.judge.Unjudged.TheVariants.{Device, Memory, Threads}
use Rattle.dc_build.specs.Written.{WrittenRows}
use Rattle.dc_capture.specs.CaptureText.{Capture, capture_of}
use Rattle.dc_capture.specs.declared.capture_lines.TheConstants.{CAPTURE_LIMIT}
use Rattle.dc_capture.specs.declared.fault.CaptureFault.{CaptureFault}
use Rattle.dc_gauge.specs.declared.timing.StreamTiming.{StreamTiming}
use Rattle.dc_in_time.specs.Documents.{intervals_of}
use Rattle.dc_run_survey.specs.Lines.{breaks_paces, breaks_wires, or_blank, survey_lines}
use Rattle.dc_run_survey.specs.declared.recorded.Surveyed.{Surveyed}
use Rattle.dc_survey.specs.Surveys.{Surveys, timing_of}
use Rattle.dc_survey.specs.declared.survey.Survey.{Survey}

-- ---- the numbers

-- what the document declares of a stream
abbrev pub declared_timing : WrittenRows → ℕ → StreamTiming
declared_timing w s = record {
  min_us = (intervals_of w.parts w.tables).stream_least s;
  max_us = (intervals_of w.parts w.tables).stream_most s;
  jitter_us = (intervals_of w.parts w.tables).stream_jitter s;
}

-- the timings of a survey are those that the document declares
abbrev pub AreDeclared : WrittenRows → Survey → Type 0
AreDeclared w v = (s : ℕ) → s < length w.tables.streams → timing_of v s ≡ declared_timing w s

-- the numbers of a capture's words, by what the document declares, and its fault
pub record IsSurveyed (w : WrittenRows) (c : Capture) (r : Surveyed) : Type 0 where
  pub declared : AreDeclared w r.survey
  pub surveys : Surveys w.tables c.words r.survey
  pub fault : r.fault ≡ c.fault

-- ---- the answer

-- unreadable where the capture has a fault, refused where a wire is broken or a stream early whose bus is not policed
abbrev pub survey_outcome : WrittenRows → Survey → Option CaptureFault → Outcome
survey_outcome w v None = if breaks_wires w.tables v || breaks_paces w.tables v then Refused else Done
survey_outcome w v (Some fault) = Unreadable

-- the answer by these numbers
abbrev pub survey_answer : WrittenRows → Surveyed → Answer
survey_answer w r = record { lines = or_blank (survey_lines w.tables r.survey r.fault); outcome = survey_outcome w r.survey r.fault }

-- to the text of a capture: the answer by its numbers
abbrev pub AnswersText : WrittenRows → List ℕ → Answer → Type 0
AnswersText w text answer = (r : Surveyed) × IsSurveyed w (capture_of w.tables CAPTURE_LIMIT text) r × (answer ≡ survey_answer w r)

-- to the texts behind that of the tables: the first is the capture
abbrev pub AnswersCapture : WrittenRows → List (List ℕ) → Answer → Type 0
AnswersCapture w [] answer = ⊥
AnswersCapture w (text ∷ texts) answer = AnswersText w text answer

-- to both texts: the tables are judged first
abbrev pub AnswersSurvey : List ℕ → List ℕ → Answer → Type 0
AnswersSurvey tables capture = AnswersWritten AnswersCapture (tables ∷ capture ∷ [])

-- ---- what is reported

-- how many failures of its source a result counts
abbrev pub failures_in : {T : Type 0} → Result T Unjudged → ℕ
failures_in (Ok x) = 0
failures_in (Err Device) = 1
failures_in (Err Memory) = 0
failures_in (Err Threads) = 0

-- What `survey` reports, where its sources and its sink failed so often before and after it
abbrev pub ReportsSurvey : List ℕ → List ℕ → Option (List ℕ) → Option (List ℕ) → ℕ → ℕ → ℕ → ℕ → Exit → Type 0
ReportsSurvey tables capture old new sources sources' sink sink' exit =
    Reported (WholeOrNone (AnswersSurvey tables capture) (is_answered exit)) old new sources sources' sink sink' exit
