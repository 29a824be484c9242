-- The text of the least certificate, or why there is none.
use Rattle.std.specs.Prelude.{◌≡◌, ℕ, List, Result, Ok, Err, String, string_bytes}
use Rattle.std.specs.declared.alloc.Global.{Global}
use Rattle.dc_build.specs.Reported.{AreTablesOf}
use Rattle.dc_cert.specs.NamedRows.{NamedRows}
use Rattle.dc_cert.specs.Printing.{claims_text}
use Rattle.dc_find.specs.Least.{IsLeastAccepted, NoneAccepted}
use Rattle.dc_find.specs.Ways.{IsFirstInTheWay}
use Rattle.dc_tables.specs.TableRows.{TableRows}
use Rattle.dc_toml.specs.Reading.{tables_of}
use Rattle.dc_engine.specs.Opening.{IsTablesFault}
use Rattle.dc_texts.specs.declared.fault.NotFound.{NotFound}
use Rattle.dc_texts.specs.declared.fault.NotFound.TheVariants.{Memory, Tables, Obstacle}

-- bytes are the text of the least certificate that is accepted for tables
pub record IsLeastText (rows : TableRows) (text : List ℕ) : Type 0 where
  pub claims : NamedRows
  pub least : IsLeastAccepted rows claims
  pub printed : text ≡ claims_text claims

-- what is found for tables
abbrev pub FindsFor : TableRows → Result (String Global) NotFound → Type 0
FindsFor rows (Ok text) = IsLeastText rows (string_bytes text)
FindsFor rows (Err Memory) = Unit {0}
FindsFor rows (Err (Tables fault)) = ⊥
FindsFor rows (Err (Obstacle fault)) = NoneAccepted rows × IsFirstInTheWay rows fault

-- what is found for the tables of a text
abbrev pub FindsText : List ℕ → Result (String Global) NotFound → Type 0
FindsText tables (Ok text) = (rows : TableRows) × AreTablesOf (tables_of tables) rows × IsLeastText rows (string_bytes text)
FindsText tables (Err Memory) = Unit {0}
FindsText tables (Err (Tables fault)) = IsTablesFault tables fault
FindsText tables (Err (Obstacle fault)) = (rows : TableRows) × AreTablesOf (tables_of tables) rows × NoneAccepted rows × IsFirstInTheWay rows fault
