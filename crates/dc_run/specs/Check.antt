-- What `check` answers to the texts of tables and of a certificate.
use Rattle.std.specs.Prelude.{◌≡◌, ℕ, Bool, Option, Some, None, List, Result, Ok, Err}
use Rattle.dc_cert.specs.NamedRows.{NamedRows}
use Rattle.dc_cert.specs.Faults.{fault_text}
use Rattle.dc_cert.specs.Reading.{Reading, certificate_of}
use Rattle.dc_check.specs.Accepts.{Accepts}
use Rattle.dc_check.specs.Certified.{KeepsItsClaims}
use Rattle.dc_check.specs.Verdict.{verdict_of}
use Rattle.dc_check.specs.declared.fault.CheckFault.{CheckFault}
use Rattle.dc_print.specs.Verdicts.{accepted_text, refused_text}
use Rattle.dc_tables.specs.TableRows.{TableRows}
use Rattle.dc_document.specs.declared.fault.BuildError.{BuildError}
use Rattle.dc_document.specs.declared.fault.BuildError.TheVariants.{Refused, Memory as NoMemory}
use Rattle.dc_toml.specs.Reading.{tables_of}
use Rattle.dc_build.specs.Reported.{TellsTables, AreTablesOf}
use Rattle.dc_answer.specs.Answer.{Answer, Reported, WholeOrNone, one_line, unreadable}
use Rattle.dc_answer.specs.Exits.{is_answered}
use Rattle.dc_answer.specs.Inputs.{tables_end}
use Rattle.dc_answer.specs.declared.exit.Exit.{Exit}
use Rattle.dc_answer.specs.declared.exit.Exit.TheVariants.{Done}
use Rattle.dc_answer.specs.declared.exit.Outcome.TheVariants.{Done as WasDone, Refused as WasRefused}

-- ---- the answer

-- to a verdict
abbrev pub answer_verdict : TableRows → Option CheckFault → Answer
answer_verdict t None = one_line (accepted_text t) WasDone
answer_verdict t (Some fault) = one_line (refused_text t fault) WasRefused

-- to a certificate that reads so
abbrev pub answer_claims : TableRows → Reading NamedRows → Answer
answer_claims t (Ok claims) = answer_verdict t (verdict_of t claims)
answer_claims t (Err fault) = unreadable (fault_text fault)

-- to the text of a certificate, where the tables read so: they are judged first
abbrev pub AnswersTables : List ℕ → Answer → Result TableRows BuildError → Type 0
AnswersTables certificate answer (Ok t) = answer ≡ answer_claims t (certificate_of certificate)
AnswersTables certificate answer (Err (Refused fault)) = answer ≡ tables_end fault
AnswersTables certificate answer (Err (NoMemory e)) = ⊥

-- to both texts
abbrev pub AnswersCheck : List ℕ → List ℕ → Answer → Type 0
AnswersCheck tables certificate answer = (read : Result TableRows BuildError) × TellsTables (tables_of tables) read × AnswersTables certificate answer read

-- what `check` answers: where it is not whole, that or no line
abbrev pub CheckAnswers : List ℕ → List ℕ → Bool → Answer → Type 0
CheckAnswers tables certificate = WholeOrNone (AnswersCheck tables certificate)

-- ---- an accepted certificate

-- what was read is a certificate that is accepted for the tables, and it keeps its claims
pub record Certifies (t : TableRows) (reading : Reading NamedRows) : Type 0 where
  pub claims : NamedRows
  pub read : reading ≡ Ok claims
  pub accepted : Accepts t claims
  pub kept : KeepsItsClaims t claims

-- to a certificate: the verdict, and where that is to accept it, it is such
abbrev pub AnswersVerdict : TableRows → NamedRows → Answer → Type 0
AnswersVerdict t claims answer = (answer ≡ answer_verdict t (verdict_of t claims)) × (answer.outcome ≡ WasDone → Certifies t (Ok claims))

-- the texts are those of tables and of such a certificate for them
pub record AreCertified (tables certificate : List ℕ) : Type 0 where
  pub rows : TableRows
  pub read : AreTablesOf (tables_of tables) rows
  pub certified : Certifies rows (certificate_of certificate)

-- ---- what is reported

-- What `check` reports, where its sources and its sink failed so often before and after it; where it ends well, the certificate
-- keeps its claims.
pub record ReportsCheck (tables certificate : List ℕ) (old new : Option (List ℕ)) (sources sources' sink sink' : ℕ) (exit : Exit) : Type 0 where
  pub reported : Reported (CheckAnswers tables certificate (is_answered exit)) old new sources sources' sink sink' exit
  pub certified : exit ≡ Done → AreCertified tables certificate
