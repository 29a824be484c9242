-- When an answer is the tables of a text.
use Rattle.std.specs.Prelude.{◌≡◌, ◌⊎◌, Result, Ok, Err}
use Rattle.dc_document.specs.declared.fault.BuildError.{BuildError}
use Rattle.dc_document.specs.declared.fault.BuildError.TheVariants.{Refused, Memory}
use Rattle.dc_document.specs.declared.fault.TableFault.{TableFault}
use Rattle.dc_document.specs.Document.{Document}
use Rattle.dc_rules.specs.Rules.{verdict_of}
use Rattle.dc_build.specs.RowsOf.{AreRows}
use Rattle.dc_build.specs.Written.{WrittenRows}
use Rattle.dc_tables.specs.TableRows.{TableRows}
use Rattle.dc_toml.specs.Written.{Written, written}
use Rattle.dc_toml.specs.Faults.{Reading}

-- parts that say what was read, and break no rule, have these rows
pub record AreTablesOf (reading : Reading Written) (rows : TableRows) : Type 0 where
  pub parts : Document
  pub said : reading ≡ Ok (written parts)
  pub valid : verdict_of parts ≡ Ok tt
  pub rows_of : AreRows parts rows

-- parts that say what was read first break a rule so
pub record BreakRule (reading : Reading Written) (fault : TableFault) : Type 0 where
  pub parts : Document
  pub said : reading ≡ Ok (written parts)
  pub broken : verdict_of parts ≡ Err (Refused fault)

-- The answer is the tables of what was read; or its first fault, that of the text before the rules; or memory ran out.
abbrev pub TellsTables : Reading Written → Result TableRows BuildError → Type 0
TellsTables reading (Ok rows) = AreTablesOf reading rows
TellsTables reading (Err (Memory e)) = Unit {0}
TellsTables reading (Err (Refused fault)) = (reading ≡ Err fault) ⊎ BreakRule reading fault

-- this document says what was read, breaks no rule, and has these rows
pub record AreWrittenBy (reading : Reading Written) (w : WrittenRows) : Type 0 where
  pub said : reading ≡ Ok (written w.parts)
  pub valid : verdict_of w.parts ≡ Ok tt
  pub rows_of : AreRows w.parts w.tables

-- the same of tables beside their document
abbrev pub TellsWritten : Reading Written → Result WrittenRows BuildError → Type 0
TellsWritten reading (Ok w) = AreWrittenBy reading w
TellsWritten reading (Err (Memory e)) = Unit {0}
TellsWritten reading (Err (Refused fault)) = (reading ≡ Err fault) ⊎ BreakRule reading fault
