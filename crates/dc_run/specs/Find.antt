-- What `find` answers to the text of tables.
use Rattle.std.specs.Prelude.{◌≡◌, ◌⊎◌, ℕ, Bool, Option, List, [], ◌∷◌, ◌++◌, Result, Ok, Err, codes}
use Rattle.dc_cert.specs.NamedRows.{NamedRows}
use Rattle.dc_cert.specs.Printing.{claims_text}
use Rattle.dc_check.specs.Certified.{KeepsItsClaims}
use Rattle.dc_check.specs.FaultText.{condition_code}
use Rattle.dc_check.specs.declared.fault.CertificateList.{CertificateList}
use Rattle.dc_check.specs.declared.fault.CertificateList.TheVariants.{Inputs, Outputs, Labels}
use Rattle.dc_find.specs.FaultText.{obstacle_code}
use Rattle.dc_find.specs.Least.{IsLeastAccepted, NoneAccepted}
use Rattle.dc_find.specs.Ways.{IsFirstInTheWay}
use Rattle.dc_find.specs.declared.fault.FindFault.{FindFault}
use Rattle.dc_find.specs.declared.fault.FindFault.TheVariants.{WindowNeverCloses, QueueTooShort, LabelRule, Memory as NoMemory}
use Rattle.dc_find.specs.declared.fault.Obstacle.{Obstacle}
use Rattle.dc_find.specs.declared.fault.Obstacle.TheVariants.{NoWindowCloses, QueueTooSmall, LabelRuleBroken}
use Rattle.dc_find.specs.declared.fault.Queue.TheVariants.{Input, Output}
use Rattle.dc_document.specs.declared.fault.BuildError.{BuildError}
use Rattle.dc_document.specs.declared.fault.BuildError.TheVariants.{Refused, Memory as NoTables}
use Rattle.dc_tables.specs.TableRows.{TableRows}
use Rattle.dc_toml.specs.Reading.{tables_of}
use Rattle.dc_build.specs.Reported.{TellsTables}
use Rattle.dc_answer.specs.Answer.{Answer, Reported, WholeOrNone, one_line}
use Rattle.dc_print.specs.Verdicts.{member_name, member_text}
use Rattle.dc_answer.specs.Exits.{is_answered}
use Rattle.dc_answer.specs.Inputs.{tables_end}
use Rattle.dc_answer.specs.declared.exit.Exit.{Exit}
use Rattle.dc_answer.specs.declared.exit.Outcome.TheVariants.{Done, Refused as WasRefused}

-- ---- the line

-- as `refused F1 input A`
unfoldable pub refusal_text : TableRows → Obstacle → CertificateList → ℕ → List ℕ
refusal_text t obstacle list index = codes "refused " ++ obstacle_code obstacle ++ codes " " ++ member_text list ++ member_name t list index

-- the same, with the code of the condition where it is a label's
abbrev pub obstacle_text : TableRows → FindFault → List ℕ
obstacle_text t (WindowNeverCloses (Input b)) = refusal_text t NoWindowCloses Inputs b
obstacle_text t (WindowNeverCloses (Output o)) = refusal_text t NoWindowCloses Outputs o
obstacle_text t (QueueTooShort b) = refusal_text t QueueTooSmall Inputs b
obstacle_text t (LabelRule x condition) = refusal_text t LabelRuleBroken Labels x ++ codes " " ++ condition_code condition
obstacle_text t NoMemory = []

-- ---- the answer

-- the line, with its line feed, is the text of a certificate
abbrev pub Tells : NamedRows → List ℕ → Type 0
Tells claims line = line ++ 10 ∷ [] ≡ claims_text claims

-- the text of the least certificate that is accepted for the tables: it keeps its claims
pub record AnswersLeast (t : TableRows) (answer : Answer) : Type 0 where
  pub claims : NamedRows
  pub line : List ℕ
  pub least : IsLeastAccepted t claims
  pub kept : KeepsItsClaims t claims
  pub text : Tells claims line
  pub said : answer ≡ one_line line Done

-- none is accepted, and what stands first in the way of one
pub record AnswersObstacle (t : TableRows) (answer : Answer) : Type 0 where
  pub fault : FindFault
  pub none : NoneAccepted t
  pub first : IsFirstInTheWay t fault
  pub said : answer ≡ one_line (obstacle_text t fault) WasRefused

-- the answer for tables: the least certificate, or what stands first in the way of one
abbrev pub AnswersRows : TableRows → Answer → Type 0
AnswersRows t answer = AnswersLeast t answer ⊎ AnswersObstacle t answer

-- to tables that read so
abbrev pub AnswersRead : Answer → Result TableRows BuildError → Type 0
AnswersRead answer (Ok t) = AnswersRows t answer
AnswersRead answer (Err (Refused fault)) = answer ≡ tables_end fault
AnswersRead answer (Err (NoTables e)) = ⊥

-- to the text of tables
abbrev pub AnswersFind : List ℕ → Answer → Type 0
AnswersFind tables answer = (read : Result TableRows BuildError) × TellsTables (tables_of tables) read × AnswersRead answer read

-- what `find` answers: where it is not whole, that or no line
abbrev pub FindAnswers : List ℕ → Bool → Answer → Type 0
FindAnswers tables = WholeOrNone (AnswersFind tables)

-- ---- what is reported

-- What `find` reports, where its source and its sink failed so often before and after it
abbrev pub ReportsFind : List ℕ → Option (List ℕ) → Option (List ℕ) → ℕ → ℕ → ℕ → ℕ → Exit → Type 0
ReportsFind tables old new source source' sink sink' exit =
    Reported (FindAnswers tables (is_answered exit)) old new source source' sink sink' exit
