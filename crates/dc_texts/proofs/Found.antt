-- From what is found for tables to what is found for their text.
use Rattle.std.proofs.Common.{ℕ, List, Result, Ok, Err, String}
use Rattle.std.specs.declared.alloc.Global.{Global}
use Rattle.dc_build.specs.Reported.{AreTablesOf}
use Rattle.dc_tables.specs.TableRows.{TableRows}
use Rattle.dc_toml.specs.Reading.{tables_of}
use Rattle.dc_texts.specs.Finding.{FindsFor, FindsText}
use Rattle.dc_texts.specs.declared.fault.NotFound.{NotFound}
use Rattle.dc_texts.specs.declared.fault.NotFound.TheVariants.{Memory, Tables, Obstacle}

pub found_text : (tables : List ℕ) (rows : TableRows) (r : Result (String Global) NotFound) → AreTablesOf (tables_of tables) rows → FindsFor rows r → FindsText tables r
found_text tables rows (Ok text) are found = (rows, are, found)
found_text tables rows (Err Memory) are found = tt
found_text tables rows (Err (Tables fault)) are found = absurd found
found_text tables rows (Err (Obstacle fault)) are found = (rows, are, found.0, found.1)
