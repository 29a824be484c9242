-- The text that `margins` prints without options, and why no certificate is accepted.
use Rattle.std.specs.Prelude.{◌≡◌, ◌≢◌, ℕ, false, List, Option, Some, None, Result, Ok, Err, String}
use Rattle.std.specs.declared.alloc.Global.{Global}
use Rattle.dc_answer.specs.Answer.{Answer}
use Rattle.dc_check.specs.declared.certified.Certified.{Certified}
use Rattle.dc_device.specs.Lines.{spelled}
use Rattle.dc_engine.specs.Answers.{report_of}
use Rattle.dc_engine.specs.Opening.{Certifies}
use Rattle.dc_engine.specs.declared.fault.OpenFault.{OpenFault}
use Rattle.dc_engine.specs.declared.fault.OpenFault.TheVariants.{Memory as OutOfMemory}
use Rattle.dc_engine.specs.declared.fault.Report.{Report}
use Rattle.dc_run_margins.specs.Margins.{AnswersMargins, AnswersTablesAlone}
use Rattle.dc_run_margins.specs.declared.telling.Telling.{Telling}
use Rattle.dc_texts.specs.Finding.{FindsText}
use Rattle.dc_texts.specs.Reports.{not_found_report}
use Rattle.dc_texts.specs.declared.fault.NotFound.{NotFound}
use Rattle.dc_texts.specs.declared.fault.NotFound.TheVariants.{Memory}

-- how margins are told without options
abbrev pub without_options : Telling
without_options = record { json = false; microseconds = false; drift = None }

-- a text is the lines of an answer that is such
pub record IsTextOf (Is : Answer → Type 0) (text : List ℕ) : Type 0 where
  pub answer : Answer
  pub is : Is answer
  pub printed : text ≡ spelled answer.lines

-- a text is what `margins` prints of the texts of tables and of a certificate
abbrev pub IsMarginsText : (tables certificate text : List ℕ) → Type 0
IsMarginsText tables certificate = IsTextOf (AnswersMargins without_options tables certificate)

-- a text is what `margins` prints of the text of tables alone
abbrev pub IsLeastMarginsText : (tables text : List ℕ) → Type 0
IsLeastMarginsText tables = IsTextOf (AnswersTablesAlone without_options tables)

-- why a certificate is not accepted for tables, both texts: `None` where it is
abbrev pub IsRefusal : (tables certificate : List ℕ) → Option Report → Type 0
IsRefusal tables certificate None = (certified : Certified) × Certifies tables certificate (Ok certified)
IsRefusal tables certificate (Some report) = (fault : OpenFault) × (fault ≢ OutOfMemory) × Certifies tables certificate (Err fault) × (report ≡ report_of fault)

-- why none is accepted for the tables of a text: `None` where one is
abbrev pub IsLeastRefusal : (tables : List ℕ) → Option Report → Type 0
IsLeastRefusal tables None = (text : String Global) × FindsText tables (Ok text)
IsLeastRefusal tables (Some report) = (fault : NotFound) × (fault ≢ Memory) × FindsText tables (Err fault) × (report ≡ not_found_report fault)

-- a report of a fault that is no want of memory, or of none
abbrev pub IsReportOf : Option OpenFault → Option Report → Type 0
IsReportOf None report = report ≡ None
IsReportOf (Some fault) report = (fault ≢ OutOfMemory) × (report ≡ Some (report_of fault))

-- the same of why nothing was found
abbrev pub IsLeastReportOf : Option NotFound → Option Report → Type 0
IsLeastReportOf None report = report ≡ None
IsLeastReportOf (Some fault) report = (fault ≢ Memory) × (report ≡ Some (not_found_report fault))
