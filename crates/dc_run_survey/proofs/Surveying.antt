-- What `survey` answers.
use Rattle.std.proofs.Common.{◌≡◌, ℕ, ◌*◌, suc, zero, ◌<◌, ◌≤◌, ◌++◌, List, [], ◌∷◌, length, slice_index_or, refl, ◌∙◌, ap, arith, Option, Some, None, IfSome, Result, Ok, Err}
use Rattle.std.specs.Global.{Vec}
use Rattle.dc_answer.specs.Given.{AreTexts, failures}
use Rattle.dc_answer.specs.Judging.{Keeps, Raised, Says}
use Rattle.dc_answer.specs.declared.exit.Outcome.{Outcome}
use Rattle.dc_answer.specs.declared.judge.Unjudged.{Unjudged}
use Rattle.dc_answer.specs.declared.judge.Unjudged.TheVariants.{Device, Memory, Threads}
use Rattle.dc_build.specs.Written.{WrittenRows, AreWritten}
use Rattle.dc_capture.specs.CaptureText.{capture_of}
use Rattle.dc_capture.specs.declared.capture_lines.TheConstants.{CAPTURE_LIMIT}
use Rattle.dc_device.specs.States.{SourceState}
use Rattle.dc_gauge.specs.declared.timing.StreamTiming.{StreamTiming}
use Rattle.dc_in_time.specs.InTime.{DocumentsRound}
use Rattle.dc_run_survey.specs.Answer.{AnswersCapture, AnswersText, AreDeclared, IsSurveyed, declared_timing, survey_answer, survey_outcome}
use Rattle.dc_run_survey.specs.Lines.{parted, survey_lines}
use Rattle.dc_run_survey.specs.declared.recorded.Surveyed.{Surveyed}
use Rattle.dc_run_survey.proofs.Parting.{parted-spelled}
use Rattle.dc_survey.specs.Surveys.{no_timing}
use Rattle.dc_survey.specs.declared.survey.Survey.{Survey}
use Rattle.dc_tables.specs.TableRows.{AreValid, stream_row}

-- ---- what is declared

some-times : (a b : ℕ) → 1 ≤ a → 1 ≤ b → 1 ≤ a * b
some-times zero b l m = absurd (omega (arith, l))
some-times (suc a) b l m = omega (arith, m)

-- each stream of a document declares a minimum of 1 microsecond or more
pub declared-some : (w : WrittenRows) → AreWritten w → AreValid w.tables → DocumentsRound w.tables → (s : ℕ) → s < length w.tables.streams → 1 ≤ (declared_timing w s).min_us
declared-some w written valid rounds s there =
    let fits = (rounds w.parts written.obeys written.rows 0).stream_minimums s there in
    let product : 1 ≤ (stream_row w.tables s).minimum * w.tables.tick_us = some-times (stream_row w.tables s).minimum w.tables.tick_us (valid.minimums s there) (omega (arith, valid.ticks_some)) in
    omega (arith, fits, product)

-- the timings of a survey are those that were handed in
pub declared-as : (w : WrittenRows) (timings : Vec StreamTiming) (v : Survey) → v.timings ≡ timings → ((s : ℕ) → s < length w.tables.streams → slice_index_or timings.items s no_timing ≡ declared_timing w s) → AreDeclared w v
declared-as w timings v same each s there = ap (λ (x : Vec StreamTiming). slice_index_or x.items s no_timing) same ∙ each s there

-- ---- the answer

-- what was told of a survey is its answer
pub survey_said : (w : WrittenRows) (r : Surveyed) (page : List ℕ) (outcome : Outcome) (from : Option (List ℕ)) → page ≡ parted (survey_lines w.tables r.survey r.fault) → outcome ≡ survey_outcome w r.survey r.fault
    → IfSome from (λ text. IsSurveyed w (capture_of w.tables CAPTURE_LIMIT text) r) → IfSome from (λ text. Says (AnswersText w text) page outcome)
survey_said w r page outcome None told ends is = tt
survey_said w r page outcome (Some text) told ends is =
    (survey_answer w r, (r, is, refl), ap (λ l. l ++ 10 ∷ []) told ∙ parted-spelled (survey_lines w.tables r.survey r.fault), ends)

-- the one text behind the tables is the capture
pub capture_answered : (w : WrittenRows) (s : SourceState) (page : List ℕ) (result : Result Outcome Unjudged) → IfSome s.remaining (λ text. Keeps (AnswersText w text) page result)
    → (texts : List (List ℕ)) → AreTexts (s ∷ []) texts → Keeps (AnswersCapture w texts) page result
capture_answered w s page result kept [] are = absurd are
capture_answered w s page result kept (text ∷ []) (is, none) = rw is at kept
capture_answered w s page result kept (text ∷ more ∷ texts) (is, none) = absurd none

-- no other source fails
pub raised_alone : (s s' : SourceState) (result : Result Outcome Unjudged) → Raised s.failed s'.failed result → Raised (failures (s ∷ [])) (failures (s' ∷ [])) result
raised_alone s s' (Ok outcome) h = omega (arith, h)
raised_alone s s' (Err Device) h = omega (arith, h)
raised_alone s s' (Err Memory) h = omega (arith, h)
raised_alone s s' (Err Threads) h = omega (arith, h)
