-- What `report` answers to the texts of tables, of a certificate and of what was observed: a page, whose words no clause says, and the
-- outcome.
use Rattle.std.specs.Prelude.{◌≡◌, ◌⊎◌, ℕ, ◌++◌, if◌then◌else◌, nat_le, length, Option, Some, None, List, [], ◌∷◌, Result, Ok, Err}
use Rattle.dc_cert.specs.Bounds.{CertificateRows, numbers_of}
use Rattle.dc_cert.specs.NamedRows.{NamedRows}
use Rattle.dc_cert.specs.Faults.{fault_text}
use Rattle.dc_cert.specs.Reading.{Reading, certificate_of}
use Rattle.dc_check.specs.Verdict.{verdict_of}
use Rattle.dc_check.specs.declared.fault.CheckFault.{CheckFault}
use Rattle.dc_find.specs.Least.{IsLeastAccepted, NoneAccepted}
use Rattle.dc_find.specs.Ways.{IsFirstInTheWay}
use Rattle.dc_find.specs.declared.fault.FindFault.{FindFault}
use Rattle.dc_tables.specs.TableRows.{TableRows}
use Rattle.dc_document.specs.declared.fault.BuildError.{BuildError}
use Rattle.dc_document.specs.declared.fault.BuildError.TheVariants.{Refused, Memory as NoMemory}
use Rattle.dc_document.specs.declared.limits.TheConstants.{TEXT_LIMIT}
use Rattle.dc_toml.specs.Reading.{tables_of}
use Rattle.dc_build.specs.Reported.{AreTablesOf, TellsTables}
use Rattle.dc_seen.specs.Faults.{seen_rule_code}
use Rattle.dc_seen.specs.Reading.{seen_rows}
use Rattle.dc_seen.specs.Said.{SeenRows, seen_of}
use Rattle.dc_seen.specs.declared.fault.SeenFault.{SeenFault}
use Rattle.dc_seen.specs.declared.fault.SeenRule.TheVariants.{LineTooLong}
use Rattle.dc_seen.specs.declared.seen.Seen.{Seen}
use Rattle.dc_answer.specs.Answer.{Answer, Reported, WholeOrNone, fault as line_of_fault, one_line, unreadable}
use Rattle.dc_answer.specs.Exits.{is_answered}
use Rattle.dc_answer.specs.Inputs.{tables_end}
use Rattle.dc_answer.specs.declared.exit.Exit.{Exit}
use Rattle.dc_answer.specs.declared.exit.Outcome.{Outcome}
use Rattle.dc_answer.specs.declared.exit.Outcome.TheVariants.{Done, Refused as WasRefused}
use Rattle.dc_answer.specs.declared.inputs.Unloaded.{Unloaded}
use Rattle.dc_answer.specs.declared.inputs.Unloaded.TheVariants.{Refused as Faulty, Failed}
use Rattle.dc_run.specs.Find.{obstacle_text}

-- the outcome of a verdict
abbrev pub outcome_of : Option CheckFault → Outcome
outcome_of None = Done
outcome_of (Some fault) = WasRefused

-- some page, with this outcome
abbrev pub IsPage : Outcome → Answer → Type 0
IsPage outcome answer = (page : List ℕ) × (answer ≡ one_line page outcome)

-- to tables and a certificate that reads so: a page with the outcome of the verdict
abbrev pub AnswersClaims : TableRows → Answer → Reading NamedRows → Type 0
AnswersClaims t answer (Ok claims) = IsPage (outcome_of (verdict_of t claims)) answer
AnswersClaims t answer (Err fault) = answer ≡ unreadable (fault_text fault)

-- to the text of a certificate, where the tables read so: they are judged first
abbrev pub AnswersTables : List ℕ → Answer → Result TableRows BuildError → Type 0
AnswersTables certificate answer (Ok t) = AnswersClaims t answer (certificate_of certificate)
AnswersTables certificate answer (Err (Refused fault)) = answer ≡ tables_end fault
AnswersTables certificate answer (Err (NoMemory e)) = ⊥

-- to both texts
abbrev pub AnswersReport : List ℕ → List ℕ → Answer → Type 0
AnswersReport tables certificate answer = (read : Result TableRows BuildError) × TellsTables (tables_of tables) read × AnswersTables certificate answer read

-- ---- with what was observed of a run

-- the fault of a text that is longer than a text may be
abbrev pub too_long_text : SeenFault
too_long_text = record { rule = LineTooLong; line = 1 }

-- what such a text says for tables and a certificate, or its first fault
unfoldable pub observed_of : TableRows → CertificateRows → List ℕ → Result SeenRows SeenFault
observed_of t c text = if nat_le (length text) TEXT_LIMIT then seen_of t c text else Err too_long_text

-- the numbers of a text that says this, or its first fault; something else may fail with any text
abbrev pub LoadsSeen : Result SeenRows SeenFault → Result Seen (Unloaded SeenFault) → Type 0
LoadsSeen said (Ok seen) = said ≡ Ok (seen_rows seen)
LoadsSeen said (Err (Faulty fault)) = said ≡ Err fault
LoadsSeen said (Err (Failed failure)) = Unit {0}

-- the answer to the first fault
abbrev pub seen_end : SeenFault → Answer
seen_end f = line_of_fault (seen_rule_code f.rule) f.line

-- to a text that says this: a page with the outcome of the verdict, or the line of its first fault
abbrev pub AnswersSeen : TableRows → NamedRows → Answer → Result SeenRows SeenFault → Type 0
AnswersSeen t claims answer (Ok seen) = IsPage (outcome_of (verdict_of t claims)) answer
AnswersSeen t claims answer (Err f) = answer ≡ seen_end f

-- to the text
abbrev pub AnswersText : TableRows → NamedRows → List ℕ → Answer → Type 0
AnswersText t claims text answer = AnswersSeen t claims answer (observed_of t (numbers_of claims) text)

-- to the texts behind those of the tables and of the certificate: the one is that of what was observed
abbrev pub AnswersBeside : TableRows → NamedRows → List (List ℕ) → Answer → Type 0
AnswersBeside t claims [] answer = ⊥
AnswersBeside t claims (text ∷ texts) answer = AnswersText t claims text answer

-- to it, where the certificate reads so: that is judged first
abbrev pub AnswersGiven : TableRows → List ℕ → Answer → Reading NamedRows → Type 0
AnswersGiven t observed answer (Ok claims) = AnswersText t claims observed answer
AnswersGiven t observed answer (Err fault) = answer ≡ unreadable (fault_text fault)

-- to the texts of a certificate and of what was observed, where the tables read so: they are judged first of all
abbrev pub AnswersBehind : List ℕ → List ℕ → Answer → Result TableRows BuildError → Type 0
AnswersBehind certificate observed answer (Ok t) = AnswersGiven t observed answer (certificate_of certificate)
AnswersBehind certificate observed answer (Err (Refused fault)) = answer ≡ tables_end fault
AnswersBehind certificate observed answer (Err (NoMemory e)) = ⊥

-- to all three texts
abbrev pub AnswersObserved : List ℕ → List ℕ → List ℕ → Answer → Type 0
AnswersObserved tables certificate observed answer =
    (read : Result TableRows BuildError) × TellsTables (tables_of tables) read × AnswersBehind certificate observed answer read

-- the one text is that of tables, and the other that of a certificate, whatever this claims
pub record AreBothRead (tables certificate : List ℕ) : Type 0 where
  pub rows : TableRows
  pub read : AreTablesOf (tables_of tables) rows
  pub claims : NamedRows
  pub said : certificate_of certificate ≡ Ok claims

-- what comes behind them is asked for only where they are; else it is untouched
abbrev pub OnlyBehindBoth : List ℕ → List ℕ → Type 0 → Type 0
OnlyBehindBoth tables certificate untouched = AreBothRead tables certificate ⊎ untouched

-- ---- without a certificate

-- in a text there stands a line
abbrev pub Holds : (line text : List ℕ) → Type 0
Holds line text = (front back : List ℕ) × (text ≡ front ++ (line ++ back))

-- none is accepted: a page in which there stands the line of what is first in the way of one, as `find` has it
pub record AnswersSought (t : TableRows) (answer : Answer) : Type 0 where
  pub fault : FindFault
  pub none : NoneAccepted t
  pub first : IsFirstInTheWay t fault
  pub page : List ℕ
  pub holds : Holds (obstacle_text t fault) page
  pub said : answer ≡ one_line page WasRefused

-- to tables alone: a page on the least certificate that is accepted, or on what was found where none is
abbrev pub AnswersRows : TableRows → Answer → Type 0
AnswersRows t answer = ((claims : NamedRows) × IsLeastAccepted t claims × IsPage Done answer) ⊎ AnswersSought t answer

-- to what the text of tables says: the same for tables, the line of the first fault else; not memory, which is a failure
abbrev pub AnswersAlone : Answer → Result TableRows BuildError → Type 0
AnswersAlone answer (Ok t) = AnswersRows t answer
AnswersAlone answer (Err (Refused fault)) = answer ≡ tables_end fault
AnswersAlone answer (Err (NoMemory e)) = ⊥

-- to the text of tables
abbrev pub AnswersLeast : List ℕ → Answer → Type 0
AnswersLeast tables answer = (read : Result TableRows BuildError) × TellsTables (tables_of tables) read × AnswersAlone answer read

-- ---- what is reported

-- what `report` reports, where its sources and its sink failed so often before and after it
abbrev pub ReportsPage : List ℕ → List ℕ → Option (List ℕ) → Option (List ℕ) → ℕ → ℕ → ℕ → ℕ → Exit → Type 0
ReportsPage tables certificate old new sources sources' sink sink' exit =
    Reported (WholeOrNone (AnswersReport tables certificate) (is_answered exit)) old new sources sources' sink sink' exit

-- what `report` reports with what was observed, where its sources and its sink failed so often before and after it
abbrev pub ReportsObserved : List ℕ → List ℕ → List ℕ → Option (List ℕ) → Option (List ℕ) → ℕ → ℕ → ℕ → ℕ → Exit → Type 0
ReportsObserved tables certificate observed old new sources sources' sink sink' exit =
    Reported (WholeOrNone (AnswersObserved tables certificate observed) (is_answered exit)) old new sources sources' sink sink' exit

-- what `report` of tables alone reports, where its source and its sink failed so often before and after it
abbrev pub ReportsLeast : List ℕ → Option (List ℕ) → Option (List ℕ) → ℕ → ℕ → ℕ → ℕ → Exit → Type 0
ReportsLeast tables old new source source' sink sink' exit =
    Reported (WholeOrNone (AnswersLeast tables) (is_answered exit)) old new source source' sink sink' exit
