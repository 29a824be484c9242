-- What is opened from the texts of tables and of a certificate, and why not.
use Rattle.std.specs.Prelude.{◌≡◌, ◌⊎◌, ℕ, List, [], Some, None, Result, Ok, Err}
use Rattle.dc_build.specs.Reported.{AreTablesOf, BreakRule}
use Rattle.dc_cert.specs.NamedRows.{NamedRows, named_rows}
use Rattle.dc_cert.specs.Reading.{certificate_of}
use Rattle.dc_cert.specs.declared.certificate.Certificate.{Certificate as Cert}
use Rattle.dc_check.specs.Certified.{KeepsItsClaims}
use Rattle.dc_check.specs.Lent.{tables_of as lent_tables, certificate_of as lent_certificate}
use Rattle.dc_check.specs.Numbers.{KeepsItsNumbers}
use Rattle.dc_check.specs.Verdict.{verdict_of}
use Rattle.dc_check.specs.declared.certified.Certified.{Certified}
use Rattle.dc_check.specs.declared.fault.CheckFault.{CheckFault}
use Rattle.dc_document.specs.declared.fault.TableFault.{TableFault}
use Rattle.dc_tables.specs.TableRows.{TableRows}
use Rattle.dc_toml.specs.Reading.{tables_of}
use Rattle.dc_engine.specs.Engine.{StandsForRun}
use Rattle.dc_engine.specs.declared.engine.Engine.{Engine}
use Rattle.dc_engine.specs.declared.fault.OpenFault.{OpenFault}
use Rattle.dc_engine.specs.declared.fault.OpenFault.TheVariants.{Memory, Tables, Certificate, Refused}

-- the first fault of a text of tables
abbrev pub IsTablesFault : List ℕ → TableFault → Type 0
IsTablesFault text fault = (tables_of text ≡ Err fault) ⊎ BreakRule (tables_of text) fault

-- what is read of a text of tables
abbrev pub ReadsTables : List ℕ → Result TableRows OpenFault → Type 0
ReadsTables text (Ok rows) = AreTablesOf (tables_of text) rows
ReadsTables text (Err Memory) = Unit {0}
ReadsTables text (Err (Tables fault)) = IsTablesFault text fault
ReadsTables text (Err (Certificate fault)) = ⊥
ReadsTables text (Err (Refused fault)) = ⊥

-- a text is a certificate that is refused for these tables so
abbrev pub IsRefused : TableRows → List ℕ → CheckFault → Type 0
IsRefused rows text fault = (claims : NamedRows) × (certificate_of text ≡ Ok claims) × (verdict_of rows claims ≡ Some fault)

-- certified tables are these, and their certificate is that of the text, is accepted, and keeps its claims and its numbers
abbrev pub IsCertifiedBy : TableRows → List ℕ → Certified → Type 0
IsCertifiedBy rows text c =
    (lent_tables c ≡ rows) × (certificate_of text ≡ Ok (named_rows (lent_certificate c))) × (verdict_of rows (named_rows (lent_certificate c)) ≡ None)
    × KeepsItsClaims rows (named_rows (lent_certificate c)) × KeepsItsNumbers rows (named_rows (lent_certificate c))

-- the verdict on a certificate for tables: what is accepted is held with them, and keeps its claims and its numbers
abbrev pub IsVerdict : TableRows → Cert → Result Certified OpenFault → Type 0
IsVerdict rows certificate (Ok c) =
    (lent_tables c ≡ rows) × (lent_certificate c ≡ certificate) × (verdict_of rows (named_rows certificate) ≡ None)
    × KeepsItsClaims rows (named_rows certificate) × KeepsItsNumbers rows (named_rows certificate)
IsVerdict rows certificate (Err Memory) = ⊥
IsVerdict rows certificate (Err (Tables fault)) = ⊥
IsVerdict rows certificate (Err (Certificate fault)) = ⊥
IsVerdict rows certificate (Err (Refused fault)) = verdict_of rows (named_rows certificate) ≡ Some fault

-- the verdict on the text of a certificate for tables
abbrev pub Judges : TableRows → List ℕ → Result Certified OpenFault → Type 0
Judges rows text (Ok c) = IsCertifiedBy rows text c
Judges rows text (Err Memory) = Unit {0}
Judges rows text (Err (Tables fault)) = ⊥
Judges rows text (Err (Certificate fault)) = certificate_of text ≡ Err fault
Judges rows text (Err (Refused fault)) = IsRefused rows text fault

-- the verdict on both texts
abbrev pub Certifies : List ℕ → List ℕ → Result Certified OpenFault → Type 0
Certifies tables text (Ok c) = AreTablesOf (tables_of tables) (lent_tables c) × IsCertifiedBy (lent_tables c) text c
Certifies tables text (Err Memory) = Unit {0}
Certifies tables text (Err (Tables fault)) = IsTablesFault tables fault
Certifies tables text (Err (Certificate fault)) = (rows : TableRows) × AreTablesOf (tables_of tables) rows × (certificate_of text ≡ Err fault)
Certifies tables text (Err (Refused fault)) = (rows : TableRows) × AreTablesOf (tables_of tables) rows × IsRefused rows text fault

-- what is opened: the tables of the text, certified by the other, before any event
abbrev pub Opens : List ℕ → List ℕ → Result Engine OpenFault → Type 0
Opens tables text (Ok e) = Certifies tables text (Ok e.certified) × StandsForRun e []
Opens tables text (Err fault) = Certifies tables text (Err fault)
