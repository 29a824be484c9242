-- What `margins` answers to the texts of tables and of a certificate.
use Rattle.std.specs.Prelude.{◌≡◌, ◌⊎◌, ℕ, ◌+◌, ◌-◌, Option, Some, None, List, [], ◌∷◌, ◌++◌, map, Result, Ok, Err}
use Rattle.dc_answer.specs.Answer.{Answer, Reported, WholeOrNone}
use Rattle.dc_answer.specs.Exits.{is_answered}
use Rattle.dc_answer.specs.Judging.{Keeps}
use Rattle.dc_answer.specs.declared.exit.Exit.{Exit}
use Rattle.dc_answer.specs.declared.exit.Outcome.{Outcome}
use Rattle.dc_answer.specs.declared.exit.Outcome.TheVariants.{Done, Refused as WasRefused}
use Rattle.dc_run.specs.Find.{AnswersObstacle}
use Rattle.dc_cert.specs.Bounds.{CertificateRows, numbers_of}
use Rattle.dc_cert.specs.Faults.{fault_text}
use Rattle.dc_cert.specs.NamedRows.{NamedRows}
use Rattle.dc_cert.specs.Reading.{Reading, certificate_of}
use Rattle.dc_check.specs.Verdict.{job_count, misnaming, verdict_of}
use Rattle.dc_check.specs.declared.fault.CheckFault.{CheckFault}
use Rattle.dc_find.specs.Least.{IsLeastAccepted}
use Rattle.dc_find.specs.Found.{IsFound}
use Rattle.dc_find.specs.Reached.{IsReached, jobs_reached}
use Rattle.dc_margin.specs.Found.{found_line_of}
use Rattle.dc_margin.specs.Lines.{lines_below, margin_lines_of, job_lines_of}
use Rattle.dc_margin.specs.declared.lines.MarginLine.{MarginLine}
use Rattle.dc_document.specs.FaultText.{table_fault_text}
use Rattle.dc_document.specs.declared.fault.BuildError.{BuildError}
use Rattle.dc_document.specs.declared.fault.BuildError.TheVariants.{Refused, Memory as NoMemory}
use Rattle.dc_print.specs.Verdicts.{accepted_text, refused_text}
use Rattle.dc_tables.specs.TableRows.{TableRows}
use Rattle.dc_toml.specs.Reading.{tables_of}
use Rattle.dc_build.specs.Reported.{TellsWritten}
use Rattle.dc_build.specs.Written.{WrittenRows}
use Rattle.dc_run_margins.specs.Drift.{lines_of_drift}
use Rattle.dc_run_margins.specs.Objects.{margin_told}
use Rattle.dc_run_margins.specs.Telling.{told_as, unreadable_told}
use Rattle.dc_run_margins.specs.declared.telling.LineKey.TheVariants.{Verdict}
use Rattle.dc_run_margins.specs.declared.telling.Telling.{Telling}

-- ---- lines

-- each line after a line feed
abbrev pub fed : List (List ℕ) → List ℕ
fed [] = []
fed (line ∷ lines) = 10 ∷ line ++ fed lines

-- the verdict, as `check` prints it
abbrev pub verdict_line : TableRows → Option CheckFault → List ℕ
verdict_line t None = accepted_text t
verdict_line t (Some fault) = refused_text t fault

-- what `margins` ends with: done where the certificate is accepted, else refused
abbrev pub verdict_outcome : Option CheckFault → Outcome
verdict_outcome None = Done
verdict_outcome (Some fault) = WasRefused

-- the line of each margin; none where this fault of the names is there
abbrev pub lines_where : Option CheckFault → Telling → TableRows → CertificateRows → List (List ℕ)
lines_where None told t c = map (margin_told told t) (margin_lines_of t c)
lines_where (Some fault) told t c = []

-- the ages of a certificate that is accepted
abbrev pub ages_where : Option CheckFault → NamedRows → Option (List ℕ)
ages_where None claims = Some (numbers_of claims).ages
ages_where (Some fault) claims = None

-- ---- the answer

-- to a certificate: the verdict, then a line for each margin, where it has the tables' names, and what is told of a drift
abbrev pub answer_margins : Telling → WrittenRows → NamedRows → Answer
answer_margins told w claims =
    let verdict = verdict_of w.tables claims in
    record {
      lines =
          told_as told.json Verdict (verdict_line w.tables verdict)
          ∷ (lines_where (misnaming w.tables claims) told w.tables (numbers_of claims) ++ lines_of_drift told.json w told.drift (ages_where verdict claims));
      outcome = verdict_outcome verdict;
    }

-- to a certificate that reads so
abbrev pub answer_claims : Telling → WrittenRows → Reading NamedRows → Answer
answer_claims told w (Ok claims) = answer_margins told w claims
answer_claims told w (Err fault) = unreadable_told told.json (fault_text fault)

-- to the text of a certificate, where the tables read so: they are judged first
abbrev pub AnswersTables : Telling → List ℕ → Answer → Result WrittenRows BuildError → Type 0
AnswersTables told certificate answer (Ok w) = answer ≡ answer_claims told w (certificate_of certificate)
AnswersTables told certificate answer (Err (Refused fault)) = answer ≡ unreadable_told told.json (table_fault_text fault)
AnswersTables told certificate answer (Err (NoMemory e)) = ⊥

-- to both texts
abbrev pub AnswersMargins : Telling → List ℕ → List ℕ → Answer → Type 0
AnswersMargins told tables certificate answer = (read : Result WrittenRows BuildError) × TellsWritten (tables_of tables) read × AnswersTables told certificate answer read

-- ---- the answer without a certificate

-- to tables, of the least certificate that is accepted, and so has no fault: as to them and that certificate
pub record AnswersLeast (told : Telling) (w : WrittenRows) (answer : Answer) : Type 0 where
  pub claims : NamedRows
  pub least : IsLeastAccepted w.tables claims
  pub accepted : verdict_of w.tables claims ≡ None
  pub is : answer ≡ answer_margins told w claims

-- the lines of the margins of the first jobs, the inputs, the outputs and the labels in one row
abbrev pub lines_of_first : Telling → ℕ → TableRows → CertificateRows → List (List ℕ)
lines_of_first told jobs t c = map (margin_told told t) (lines_below (job_lines_of t c) jobs)

-- the line of a margin of what was found
abbrev pub found_text : Telling → TableRows → CertificateRows → MarginLine → List ℕ
found_text told t c line = margin_told told t (found_line_of t c line)

-- the lines of the margins of the jobs behind the first ones, of what was found of them
abbrev pub lines_behind : Telling → ℕ → TableRows → CertificateRows → List (List ℕ)
lines_behind told jobs t c = map (found_text told t c) (lines_below (λ k. job_lines_of t c (jobs + k)) (job_count t - jobs))

-- both: the lines of every job, those that are reached first
abbrev pub lines_reached : Telling → ℕ → TableRows → CertificateRows → List (List ℕ)
lines_reached told jobs t c = lines_of_first told jobs t c ++ lines_behind told jobs t c

-- to tables for which none is accepted: what `find` answers, the line of what stands first in the way of one, then the lines
-- of the margins of the jobs that are reached, with their least numbers, those of the jobs behind, of what is found, and
-- what is told of a drift
pub record AnswersReached (told : Telling) (w : WrittenRows) (answer : Answer) : Type 0 where
  pub line : Answer
  pub obstacle : AnswersObstacle w.tables line
  pub claims : NamedRows
  pub reached : IsReached w.tables (jobs_reached w.tables obstacle.fault) claims
  pub found : IsFound w.tables claims
  pub is : answer ≡ record {
    lines =
        map (told_as told.json Verdict) line.lines
        ++ (lines_reached told (jobs_reached w.tables obstacle.fault) w.tables (numbers_of claims) ++ lines_of_drift told.json w told.drift None);
    outcome = line.outcome;
  }

-- one or the other
abbrev pub AnswersRows : Telling → WrittenRows → Answer → Type 0
AnswersRows told w answer = AnswersLeast told w answer ⊎ AnswersReached told w answer

-- to tables that read so
abbrev pub AnswersAlone : Telling → Answer → Result WrittenRows BuildError → Type 0
AnswersAlone told answer (Ok w) = AnswersRows told w answer
AnswersAlone told answer (Err (Refused fault)) = answer ≡ unreadable_told told.json (table_fault_text fault)
AnswersAlone told answer (Err (NoMemory e)) = ⊥

-- to the text of tables
abbrev pub AnswersTablesAlone : Telling → List ℕ → Answer → Type 0
AnswersTablesAlone told tables answer = (read : Result WrittenRows BuildError) × TellsWritten (tables_of tables) read × AnswersAlone told answer read

-- ---- what is kept, before it is written

-- one answer, and no other
abbrev pub Answers : {E : Type 0} → Answer → List ℕ → Result Outcome E → Type 0
Answers wanted = Keeps (λ answer. answer ≡ wanted)

-- ---- what is reported

-- What `margins` reports, where its sources and its sink failed so often before and after it
abbrev pub ReportsMargins : Telling → List ℕ → List ℕ → Option (List ℕ) → Option (List ℕ) → ℕ → ℕ → ℕ → ℕ → Exit → Type 0
ReportsMargins told tables certificate old new sources sources' sink sink' exit =
    Reported (WholeOrNone (AnswersMargins told tables certificate) (is_answered exit)) old new sources sources' sink sink' exit

-- the same without a certificate
abbrev pub ReportsLeast : Telling → List ℕ → Option (List ℕ) → Option (List ℕ) → ℕ → ℕ → ℕ → ℕ → Exit → Type 0
ReportsLeast told tables old new source source' sink sink' exit =
    Reported (WholeOrNone (AnswersTablesAlone told tables) (is_answered exit)) old new source source' sink sink' exit
