-- What `design` answers to the texts of the two sheets of an interface document.
use Rattle.std.specs.Prelude.{◌≡◌, ℕ, ◌<◌, List, [], ◌∷◌, ◌++◌, length, Option, Some, None, Result, Ok, Err}
use Rattle.std.specs.Global.{Vec}
use Rattle.dc_answer.specs.Answer.{Answer, Reported, WholeOrNone, one_line}
use Rattle.dc_answer.specs.Exits.{is_answered}
use Rattle.dc_answer.specs.declared.answer.Failure.{Failure}
use Rattle.dc_answer.specs.declared.answer.Failure.TheVariants.{Source, Sink, Memory}
use Rattle.dc_answer.specs.declared.exit.Exit.{Exit}
use Rattle.dc_answer.specs.declared.exit.Outcome.{Outcome}
use Rattle.dc_answer.specs.declared.exit.Outcome.TheVariants.{Done, Refused, Unreadable}
use Rattle.dc_build.specs.Reported.{AreWrittenBy}
use Rattle.dc_build.specs.Written.{WrittenRows}
use Rattle.dc_cell.specs.declared.rows.InputRow.{InputRow}
use Rattle.dc_cell.specs.declared.rows.OutputRow.{OutputRow}
use Rattle.dc_cert.specs.NamedRows.{NamedRows}
use Rattle.dc_cert.specs.Printing.{claims_text}
use Rattle.dc_check.specs.Certified.{KeepsItsClaims}
use Rattle.dc_document.specs.declared.limits.TheConstants.{TEXT_LIMIT}
use Rattle.dc_find.specs.Least.{IsLeastAccepted}
use Rattle.dc_rows_kept.specs.KeepsRows.{KeepsRows}
use Rattle.dc_sheet.specs.Sheets.{AreInputs, AreOutputs}
use Rattle.dc_toml.specs.Reading.{tables_of}

-- ---- tables that are judged as they are written

-- The text is one of tables, the certificate is the least one that is accepted for them, so that it keeps its claims in every
-- admissible run, and the tables keep these rows.
pub record IsCertified (ins : List InputRow) (outs : List OutputRow) (text : List ℕ) (claims : NamedRows) : Type 0 where
  pub written : WrittenRows
  pub read : AreWrittenBy (tables_of text) written
  pub least : IsLeastAccepted written.tables claims
  pub claimed : KeepsItsClaims written.tables claims
  pub kept : KeepsRows ins outs written.parts

-- they are so, of this text and of the certificate with that text
pub record AreDesigned (ins : List InputRow) (outs : List OutputRow) (text certificate : List ℕ) : Type 0 where
  pub claims : NamedRows
  pub certified : IsCertified ins outs text claims
  pub printed : certificate ≡ claims_text claims

-- what was designed for the rows: nothing is claimed of what is refused or told as wrong
abbrev pub Designs : {E : Type 0} → List InputRow → List OutputRow → List ℕ → List ℕ → Result Outcome E → Type 0
Designs ins outs line certificate (Ok Done) = AreDesigned ins outs (line ++ 10 ∷ []) certificate
Designs ins outs line certificate (Ok Refused) = Unit {0}
Designs ins outs line certificate (Ok Unreadable) = Unit {0}
Designs ins outs line certificate (Err e) = Unit {0}

-- The line, with its line feed, is the text of tables that are so for the rows that the two texts say.
pub record IsDesigned (inputs outputs certificate line : List ℕ) : Type 0 where
  pub ins : List InputRow
  pub outs : List OutputRow
  pub inputs_read : AreInputs inputs ins
  pub outputs_read : AreOutputs outputs outs
  pub designed : AreDesigned ins outs (line ++ 10 ∷ []) certificate

-- ---- the answer

-- what is said with an outcome; nothing is claimed of what is refused or cannot be read
abbrev pub SaysDesign : List ℕ → List ℕ → List ℕ → List ℕ → Outcome → Type 0
SaysDesign inputs outputs certificate line Done = IsDesigned inputs outputs certificate line
SaysDesign inputs outputs certificate line Refused = Unit {0}
SaysDesign inputs outputs certificate line Unreadable = Unit {0}

-- to the texts of both sheets, where the certificate has this text
pub record AnswersDesign (inputs outputs certificate : List ℕ) (answer : Answer) : Type 0 where
  pub line : List ℕ
  pub outcome : Outcome
  pub says : SaysDesign inputs outputs certificate line outcome
  pub said : answer ≡ one_line line outcome

-- ---- what is read

-- the whole text, or none where it is longer than a text may be
abbrev pub IsSheet : Option (Vec ℕ) → List ℕ → Type 0
IsSheet (Some bytes) text = bytes.items ≡ text
IsSheet None text = TEXT_LIMIT < length text

-- the same; something else may fail with any text
abbrev pub ReadsSheet : List ℕ → Result (Option (Vec ℕ)) Failure → Type 0
ReadsSheet text (Ok sheet) = IsSheet sheet text
ReadsSheet text (Err failure) = Unit {0}

-- how many failures of the source a result counts
abbrev pub failures_in : {T : Type 0} → Result T Failure → ℕ
failures_in (Ok x) = 0
failures_in (Err Source) = 1
failures_in (Err Sink) = 0
failures_in (Err Memory) = 0

-- ---- what is reported

-- what `design` reports, where its sources and its sink failed so often before and after it, and the certificate has this text
abbrev pub ReportsDesign : List ℕ → List ℕ → List ℕ → Option (List ℕ) → Option (List ℕ) → ℕ → ℕ → ℕ → ℕ → Exit → Type 0
ReportsDesign inputs outputs certificate old new sources sources' sink sink' exit =
    Reported (WholeOrNone (AnswersDesign inputs outputs certificate) (is_answered exit)) old new sources sources' sink sink' exit
