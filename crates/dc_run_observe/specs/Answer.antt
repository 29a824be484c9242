-- What `observe` answers to the texts of tables, of a certificate and of a trace.
use Rattle.std.specs.Prelude.{◌≡◌, ◌⊎◌, ℕ, Option, Some, None, List, [], ◌∷◌, Result, Ok, Err}
use Rattle.dc_answer.specs.Answer.{Answer, Reported, WholeOrNone}
use Rattle.dc_answer.specs.Exits.{is_answered}
use Rattle.dc_answer.specs.Inputs.{tables_end}
use Rattle.dc_answer.specs.declared.exit.Exit.{Exit}
use Rattle.dc_answer.specs.declared.exit.Outcome.TheVariants.{Done}
use Rattle.dc_answer.specs.declared.judge.Unjudged.{Unjudged}
use Rattle.dc_answer.specs.declared.judge.Unjudged.TheVariants.{Device, Memory, Threads}
use Rattle.dc_build.specs.Reported.{TellsTables}
use Rattle.dc_cert.specs.Bounds.{CertificateRows, numbers_of}
use Rattle.dc_cert.specs.NamedRows.{NamedRows}
use Rattle.dc_cert.specs.Reading.{Reading, certificate_of}
use Rattle.dc_check.specs.Verdict.{verdict_of}
use Rattle.dc_check.specs.declared.fault.CheckFault.{CheckFault}
use Rattle.dc_document.specs.declared.fault.BuildError.{BuildError}
use Rattle.dc_document.specs.declared.fault.BuildError.TheVariants.{Refused, Memory as NoMemory}
use Rattle.dc_event.specs.TraceText.{Trace, trace_of}
use Rattle.dc_event.specs.declared.trace.TraceFault.{TraceFault}
use Rattle.dc_observe.specs.Near.{IsNearness}
use Rattle.dc_run.specs.Check.{AreCertified, answer_claims, answer_verdict}
use Rattle.dc_run.specs.Refusals.{trace_end}
use Rattle.dc_run_observe.specs.Lines.{observed_lines}
use Rattle.dc_run_observe.specs.declared.followed.Followed.{Followed}
use Rattle.dc_run.specs.declared.limits.TheConstants.{LONG_TRACE_LIMIT}
use Rattle.dc_run_survey.specs.Lines.{or_blank}
use Rattle.dc_tables.specs.TableRows.{TableRows}
use Rattle.dc_toml.specs.Reading.{tables_of}

-- ---- what was followed

-- how near the run of the trace's events came to its bounds, and the trace's fault
pub record IsFollowed (t : TableRows) (trace : Trace) (r : Followed) : Type 0 where
  pub near : IsNearness t r.near trace.events
  pub fault : r.fault ≡ trace.fault

-- how many failures of its source a result counts
abbrev pub failures_in : {T : Type 0} → Result T Unjudged → ℕ
failures_in (Ok x) = 0
failures_in (Err Device) = 1
failures_in (Err Memory) = 0
failures_in (Err Threads) = 0

-- ---- the answer

-- to a trace: the lines of its run, or its first fault alone
abbrev pub answer_by_fault : TableRows → CertificateRows → Trace → Option TraceFault → Answer
answer_by_fault t c trace None = record { lines = or_blank (observed_lines t c trace.events); outcome = Done }
answer_by_fault t c trace (Some fault) = trace_end (Some fault)

abbrev pub observed_answer : TableRows → CertificateRows → Trace → Answer
observed_answer t c trace = answer_by_fault t c trace trace.fault

-- to the text of a trace
abbrev pub answer_trace : TableRows → CertificateRows → List ℕ → Answer
answer_trace t c text = observed_answer t c (trace_of t LONG_TRACE_LIMIT text)

-- to the texts behind those of the tables and of the certificate: the one is the trace
abbrev pub AnswersTrace : TableRows → CertificateRows → List (List ℕ) → Answer → Type 0
AnswersTrace t c [] answer = ⊥
AnswersTrace t c (text ∷ texts) answer = answer ≡ answer_trace t c text

-- to a trace, where this is the verdict on the certificate: where it is refused, as `check`
abbrev pub answer_accepted : TableRows → NamedRows → List ℕ → Option CheckFault → Answer
answer_accepted t claims trace None = answer_trace t (numbers_of claims) trace
answer_accepted t claims trace (Some fault) = answer_verdict t (Some fault)

-- to a trace, where the certificate reads so: where it can't be read, as `check`
abbrev pub answer_certificate : TableRows → List ℕ → Reading NamedRows → Answer
answer_certificate t trace (Ok claims) = answer_accepted t claims trace (verdict_of t claims)
answer_certificate t trace (Err fault) = answer_claims t (Err fault)

-- to the texts of a certificate and of a trace, where the tables read so: they are judged first
abbrev pub AnswersTables : List ℕ → List ℕ → Answer → Result TableRows BuildError → Type 0
AnswersTables certificate trace answer (Ok t) = answer ≡ answer_certificate t trace (certificate_of certificate)
AnswersTables certificate trace answer (Err (Refused fault)) = answer ≡ tables_end fault
AnswersTables certificate trace answer (Err (NoMemory e)) = ⊥

-- to all three texts
abbrev pub AnswersObserve : List ℕ → List ℕ → List ℕ → Answer → Type 0
AnswersObserve tables certificate trace answer =
    (read : Result TableRows BuildError) × TellsTables (tables_of tables) read × AnswersTables certificate trace answer read

-- ---- what is reported

-- What `observe` reports, where its sources and its sink failed so often before and after it
abbrev pub ReportsObserve : List ℕ → List ℕ → List ℕ → Option (List ℕ) → Option (List ℕ) → ℕ → ℕ → ℕ → ℕ → Exit → Type 0
ReportsObserve tables certificate trace old new sources sources' sink sink' exit =
    Reported (WholeOrNone (AnswersObserve tables certificate trace) (is_answered exit)) old new sources sources' sink sink' exit

-- the trace is asked for only where the texts are those of tables and of a certificate that is accepted for them; else it is untouched
abbrev pub OnlyCertified : List ℕ → List ℕ → Type 0 → Type 0
OnlyCertified tables certificate untouched = AreCertified tables certificate ⊎ untouched
