-- What `layout` answers to the text of tables.
use Rattle.std.specs.Prelude.{◌≡◌, ℕ, List, [], ◌∷◌, ◌++◌, Option, Result, Ok, Err, codes}
use Rattle.dc_answer.specs.Answer.{Answer, Reported, WholeOrNone, one_line}
use Rattle.dc_answer.specs.Exits.{is_answered}
use Rattle.dc_answer.specs.declared.exit.Exit.{Exit}
use Rattle.dc_answer.specs.declared.exit.Outcome.{Outcome}
use Rattle.dc_answer.specs.declared.exit.Outcome.TheVariants.{Done, Refused, Unreadable}
use Rattle.dc_build.specs.Reported.{AreWrittenBy}
use Rattle.dc_build.specs.Written.{WrittenRows}
use Rattle.dc_cert.specs.NamedRows.{NamedRows}
use Rattle.dc_check.specs.Certified.{KeepsItsClaims}
use Rattle.dc_document.specs.FaultText.{table_fault_text}
use Rattle.dc_document.specs.declared.fault.TableFault.{TableFault}
use Rattle.dc_find.specs.Least.{IsLeastAccepted}
use Rattle.dc_toml.specs.Reading.{tables_of, unlaid_tables_of}
use Rattle.dc_toml.specs.Written.{Written}

-- ---- tables that are laid out

-- The text is one of tables, and the least certificate that is accepted for them keeps its claims in every admissible run; read with its
-- layout open it says the tables that were given.
pub record IsLaid (given : Written) (text : List ℕ) : Type 0 where
  pub written : WrittenRows
  pub claims : NamedRows
  pub read : AreWrittenBy (tables_of text) written
  pub least : IsLeastAccepted written.tables claims
  pub claimed : KeepsItsClaims written.tables claims
  pub same : unlaid_tables_of text ≡ Ok given

-- the line of a fault of tables, as `unreadable T13 at bus 1`
abbrev pub TellsFault : List ℕ → TableFault → Type 0
TellsFault line fault = line ≡ codes "unreadable " ++ table_fault_text fault

-- What was laid out for given tables; what is told as wrong is a fault. Of what is refused nothing is claimed.
abbrev pub Lays : {E : Type 0} → Written → List ℕ → Result Outcome E → Type 0
Lays given line (Ok Done) = IsLaid given (line ++ 10 ∷ [])
Lays given line (Ok Refused) = Unit {0}
Lays given line (Ok Unreadable) = (fault : TableFault) × TellsFault line fault
Lays given line (Err e) = Unit {0}

-- The line, with its line feed, is the text of tables that are so laid out; they are the tables that the given text says, read with its
-- layout open.
pub record IsLaidOut (text line : List ℕ) : Type 0 where
  pub given : Written
  pub read : unlaid_tables_of text ≡ Ok given
  pub laid : IsLaid given (line ++ 10 ∷ [])

-- A fault is told: where the text, read with its layout open, has one, that one.
pub record IsFaulty (text line : List ℕ) : Type 0 where
  pub fault : TableFault
  pub told : TellsFault line fault
  pub first : (own : TableFault) → unlaid_tables_of text ≡ Err own → fault ≡ own

-- ---- the answer

-- What is said with an outcome. Where it is refused the text says tables; of what is told then nothing is claimed.
abbrev pub SaysLayout : List ℕ → List ℕ → Outcome → Type 0
SaysLayout text line Done = IsLaidOut text line
SaysLayout text line Refused = (given : Written) × (unlaid_tables_of text ≡ Ok given)
SaysLayout text line Unreadable = IsFaulty text line

-- to the text of tables
pub record AnswersLayout (text : List ℕ) (answer : Answer) : Type 0 where
  pub line : List ℕ
  pub outcome : Outcome
  pub says : SaysLayout text line outcome
  pub said : answer ≡ one_line line outcome

-- ---- what is reported

-- what `layout` reports, where its source and its sink failed so often before and after it
abbrev pub ReportsLayout : List ℕ → Option (List ℕ) → Option (List ℕ) → ℕ → ℕ → ℕ → ℕ → Exit → Type 0
ReportsLayout text old new source source' sink sink' exit =
    Reported (WholeOrNone (AnswersLayout text) (is_answered exit)) old new source source' sink sink' exit
