-- From the verdict on a certificate for tables to that on both texts.
use Rattle.std.proofs.Common.{◌≡◌, ℕ, List, [], sym, subst, None, Result, Ok, Err}
use Rattle.dc_build.specs.Reported.{AreTablesOf}
use Rattle.dc_cert.specs.declared.certificate.Certificate.{Certificate as Cert}
use Rattle.dc_cert.specs.NamedRows.{named_rows}
use Rattle.dc_cert.specs.Reading.{certificate_of}
use Rattle.dc_check.specs.Certified.{KeepsItsClaims}
use Rattle.dc_check.specs.Lent.{tables_of as lent_tables, certificate_of as lent_certificate}
use Rattle.dc_check.specs.Numbers.{KeepsItsNumbers}
use Rattle.dc_check.specs.Verdict.{verdict_of}
use Rattle.dc_check.specs.declared.certified.Certified.{Certified}
use Rattle.dc_tables.specs.TableRows.{TableRows}
use Rattle.dc_toml.specs.Reading.{tables_of}
use Rattle.dc_engine.specs.Opening.{Certifies, IsCertifiedBy, IsVerdict, Judges, Opens}
use Rattle.dc_engine.specs.Engine.{StandsForRun}
use Rattle.dc_engine.specs.declared.engine.Engine.{Engine}
use Rattle.dc_engine.specs.declared.fault.OpenFault.{OpenFault}
use Rattle.dc_engine.specs.declared.fault.OpenFault.TheVariants.{Memory, Tables, Certificate, Refused}

-- what was accepted is certified by the text
certified_by : (rows : TableRows) (text : List ℕ) (c : Certified) (certificate : Cert) → lent_tables c ≡ rows → lent_certificate c ≡ certificate
    → certificate_of text ≡ Ok (named_rows certificate) → verdict_of rows (named_rows certificate) ≡ None → KeepsItsClaims rows (named_rows certificate)
    → KeepsItsNumbers rows (named_rows certificate) → IsCertifiedBy rows text c
certified_by rows text c certificate same lent read accepted claims numbers = (
  same,
  subst (λ k. certificate_of text ≡ Ok (named_rows k)) (sym lent) read,
  subst (λ k. verdict_of rows (named_rows k) ≡ None) (sym lent) accepted,
  subst (λ k. KeepsItsClaims rows (named_rows k)) (sym lent) claims,
  subst (λ k. KeepsItsNumbers rows (named_rows k)) (sym lent) numbers,
)

-- a verdict on the certificate of a text is one on the text
pub judged_text : (rows : TableRows) (text : List ℕ) (certificate : Cert) (r : Result Certified OpenFault) → certificate_of text ≡ Ok (named_rows certificate) → IsVerdict rows certificate r → Judges rows text r
judged_text rows text certificate (Ok c) read is = certified_by rows text c certificate is.0 is.1 read is.2 is.3 is.4
judged_text rows text certificate (Err Memory) read is = absurd is
judged_text rows text certificate (Err (Tables fault)) read is = absurd is
judged_text rows text certificate (Err (Certificate fault)) read is = absurd is
judged_text rows text certificate (Err (Refused fault)) read is = (named_rows certificate, read, is)

-- a verdict for the tables of a text is one on both texts
pub judged_both : (tables text : List ℕ) (rows shared : TableRows) (r : Result Certified OpenFault) → shared ≡ rows → AreTablesOf (tables_of tables) rows → Judges shared text r → Certifies tables text r
judged_both tables text rows shared (Ok c) same are judged =
    let here = subst (λ t. AreTablesOf (tables_of tables) t) (sym same) are in
    (subst (λ t. AreTablesOf (tables_of tables) t) (sym judged.0) here, subst (λ t. IsCertifiedBy t text c) (sym judged.0) judged)
judged_both tables text rows shared (Err Memory) same are judged = tt
judged_both tables text rows shared (Err (Tables fault)) same are judged = absurd judged
judged_both tables text rows shared (Err (Certificate fault)) same are judged = (rows, are, judged)
judged_both tables text rows shared (Err (Refused fault)) same are judged = (rows, are, subst (λ t. Judges t text (Err (Refused fault))) same judged)

-- what was certified is opened
pub opened_both : (tables text : List ℕ) (c : Certified) (e : Engine) → e.certified ≡ c → Certifies tables text (Ok c) → StandsForRun e [] → Opens tables text (Ok e)
opened_both tables text c e same certified stands = (subst (λ k. Certifies tables text (Ok k)) (sym same) certified, stands)
