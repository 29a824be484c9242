-- What `audit` answers to the texts of tables, of a certificate and of a trace, where a long run is asked for and where not.
use Rattle.std.specs.Prelude.{◌≡◌, ◌⊎◌, ◌+◌, ℕ, Bool, ◌&&◌, is_none, if◌then◌else◌, Option, Some, None, List, [], ◌∷◌, ◌++◌, Result, Ok, Err, codes, decimal}
use Rattle.dc_cert.specs.Bounds.{numbers_of}
use Rattle.dc_cert.specs.NamedRows.{NamedRows}
use Rattle.dc_cert.specs.Reading.{Reading, certificate_of}
use Rattle.dc_check.specs.Verdict.{verdict_of}
use Rattle.dc_check.specs.declared.fault.CheckFault.{CheckFault}
use Rattle.dc_event.specs.Breaks.{BreaksBudgetsAt, BreaksSourcesAt, BreaksClaimsAt}
use Rattle.dc_event.specs.declared.event.Event.{Event}
use Rattle.dc_event.specs.declared.trace.TraceFault.{TraceFault}
use Rattle.dc_document.specs.declared.fault.BuildError.{BuildError}
use Rattle.dc_document.specs.declared.fault.BuildError.TheVariants.{Refused, Memory as NoMemory}
use Rattle.dc_tables.specs.TableRows.{TableRows}
use Rattle.dc_toml.specs.Reading.{tables_of}
use Rattle.dc_build.specs.Reported.{TellsTables}
use Rattle.dc_answer.specs.Answer.{Answer, Reported, WholeOrNone}
use Rattle.dc_run.specs.Check.{AreCertified, answer_claims, answer_verdict}
use Rattle.dc_answer.specs.Exits.{is_answered}
use Rattle.dc_answer.specs.Inputs.{tables_end}
use Rattle.dc_run.specs.Claims.{claims_text}
use Rattle.dc_run.specs.Refusals.{trace_end}
use Rattle.dc_answer.specs.declared.exit.Exit.{Exit}
use Rattle.dc_answer.specs.declared.exit.Outcome.TheVariants.{Done, Refused as WasRefused}
use Rattle.dc_run_audit.specs.Recorded.{run_of}
use Rattle.dc_run_audit.specs.declared.findings.Findings.{Findings}
use Rattle.dc_answer.specs.declared.inputs.Unloaded.{Unloaded}
use Rattle.dc_answer.specs.declared.inputs.Unloaded.TheVariants.{Refused as Faulty, Failed}

-- ---- the three lines

-- as `budgets hold` or `budgets fail at 3`
abbrev pub holds_text : List ℕ → Option ℕ → List ℕ
holds_text subject None = subject ++ codes " hold"
holds_text subject (Some place) = subject ++ codes " fail at " ++ decimal place

-- the three lines of an audit: budgets, sources, claims
abbrev pub findings_lines : Findings → List (List ℕ)
findings_lines f = holds_text (codes "budgets") f.budgets ∷ holds_text (codes "sources") f.sources ∷ claims_text f.claims ∷ []

-- whether nothing fails
abbrev pub all_hold : Findings → Bool
all_hold f = is_none f.budgets && is_none f.sources && is_none f.claims

-- the answer of an audit: its lines, and done where nothing fails, else refused
abbrev pub answer_findings : Findings → Answer
answer_findings f = record { lines = findings_lines f; outcome = if all_hold f then Done else WasRefused }

-- Where a run first breaks the budgets, what is asked of the sources, and the claims by these ages, of which the least that
-- fails there; places are counted from 1, and the event of a place is that of its line.
pub record AreFound (t : TableRows) (ages : List ℕ) (run : List Event) (f : Findings) : Type 0 where
  pub budgets : BreaksBudgetsAt t run f.budgets
  pub sources : BreaksSourcesAt t run f.sources
  pub claims : BreaksClaimsAt t ages run f.claims

-- ---- the answer

-- to the run of a trace, or its first fault: then that alone
abbrev pub AnswersRun : TableRows → List ℕ → Answer → Result (List Event) TraceFault → Type 0
AnswersRun t ages answer (Ok run) = (f : Findings) × AreFound t ages run f × (answer ≡ answer_findings f)
AnswersRun t ages answer (Err fault) = answer ≡ trace_end (Some fault)

-- to the text of a trace, the last that is read
abbrev pub AnswersTrace : Bool → TableRows → List ℕ → List (List ℕ) → Answer → Type 0
AnswersTrace long t ages [] answer = ⊥
AnswersTrace long t ages (text ∷ texts) answer = AnswersRun t ages answer (run_of long t text)

-- to a trace, where this is the verdict on the certificate: where it is refused, as `check`
abbrev pub AnswersVerdict : Bool → TableRows → NamedRows → List ℕ → Answer → Option CheckFault → Type 0
AnswersVerdict long t claims trace answer None = AnswersRun t (numbers_of claims).ages answer (run_of long t trace)
AnswersVerdict long t claims trace answer (Some fault) = answer ≡ answer_verdict t (Some fault)

-- to a trace, where the certificate reads so: where it can't be read, as `check`
abbrev pub AnswersClaims : Bool → TableRows → List ℕ → Answer → Reading NamedRows → Type 0
AnswersClaims long t trace answer (Ok claims) = AnswersVerdict long t claims trace answer (verdict_of t claims)
AnswersClaims long t trace answer (Err fault) = answer ≡ answer_claims t (Err fault)

-- to the texts of a certificate and of a trace, where the tables read so: they are judged first
abbrev pub AnswersTables : Bool → List ℕ → List ℕ → Answer → Result TableRows BuildError → Type 0
AnswersTables long certificate trace answer (Ok t) = AnswersClaims long t trace answer (certificate_of certificate)
AnswersTables long certificate trace answer (Err (Refused fault)) = answer ≡ tables_end fault
AnswersTables long certificate trace answer (Err (NoMemory e)) = ⊥

-- to all three texts
abbrev pub AnswersAudit : Bool → List ℕ → List ℕ → List ℕ → Answer → Type 0
AnswersAudit long tables certificate trace answer =
    (read : Result TableRows BuildError) × TellsTables (tables_of tables) read × AnswersTables long certificate trace answer read

-- what `audit` answers: where it is not whole, that or no line
abbrev pub AuditAnswers : Bool → List ℕ → List ℕ → List ℕ → Bool → Answer → Type 0
AuditAnswers long tables certificate trace = WholeOrNone (AnswersAudit long tables certificate trace)

-- ---- what is found

-- what is found of the run that a trace tells, or its first fault; something else may fail with any trace
abbrev pub Finds : TableRows → List ℕ → Result (List Event) TraceFault → Result Findings (Unloaded TraceFault) → Type 0
Finds t ages reported (Ok f) = (run : List Event) × (reported ≡ Ok run) × AreFound t ages run f
Finds t ages reported (Err (Faulty fault)) = reported ≡ Err fault
Finds t ages reported (Err (Failed failure)) = Unit {0}

-- ---- what is reported

-- What `audit` reports, where its sources and its sink failed so often before and after it
abbrev pub ReportsAudit : Bool → List ℕ → List ℕ → List ℕ → Option (List ℕ) → Option (List ℕ) → ℕ → ℕ → ℕ → ℕ → Exit → Type 0
ReportsAudit long tables certificate trace old new sources sources' sink sink' exit =
    Reported (AuditAnswers long tables certificate trace (is_answered exit)) old new sources sources' sink sink' exit

-- the trace is asked for only where the texts are those of tables and of a certificate that is accepted for them; else it is untouched
abbrev pub OnlyCertified : List ℕ → List ℕ → Type 0 → Type 0
OnlyCertified tables certificate untouched = AreCertified tables certificate ⊎ untouched
