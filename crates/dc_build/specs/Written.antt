-- Tables beside the document that they were built from.
use Rattle.dc_document.specs.Document.{Document}
use Rattle.dc_rules.specs.Obeys.{Obeys}
use Rattle.dc_build.specs.RowsOf.{AreRows}
use Rattle.dc_tables.specs.TableRows.{TableRows}

-- a document, and rows
pub record WrittenRows : Type 0 where
  pub parts : Document
  pub tables : TableRows

-- the document breaks no rule, and the rows are its own
pub record AreWritten (w : WrittenRows) : Type 0 where
  pub obeys : Obeys w.parts
  pub rows : AreRows w.parts w.tables
