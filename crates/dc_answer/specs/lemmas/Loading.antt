-- Tables from the text of a source.
use Rattle.std.proofs.Common.{◌≡◌, ℕ, ◌<◌, List, length, refl, ◌∙◌, subst, arith, false, nat_le, Option, Some, None, IfSome, Ok, Err, inl, inr}
use Rattle.std.proofs.lemmas.Bool.Decides.{nat_tests}
use Rattle.dc_cert.specs.Reading.{certificate_of, document_of as certificate_document_of}
use Rattle.dc_cert.specs.declared.fault.CertRule.TheVariants.{NotJson}
use Rattle.dc_cert.specs.declared.fault.Fault.{Fault}
use Rattle.dc_cert.specs.declared.fault.TextPlace.TheVariants.{Top as TopPlace}
use Rattle.dc_tables.specs.TableRows.{TableRows}
use Rattle.dc_document.specs.declared.fault.Section.TheVariants.{Top}
use Rattle.dc_document.specs.declared.fault.TableFault.{TableFault}
use Rattle.dc_document.specs.declared.fault.TableRule.TheVariants.{NotToml}
use Rattle.dc_toml.specs.Reading.{document_of, tables_of}
use Rattle.dc_document.specs.declared.limits.TheConstants.{TEXT_LIMIT}
use Rattle.dc_answer.specs.Inputs.{Loads, LoadsCertificate, LoadsWritten, OnlyBehind, ReadsText}
use Rattle.dc_answer.specs.declared.inputs.Unloaded.{Unloaded}
use Rattle.dc_answer.specs.declared.inputs.Unloaded.TheVariants.{Refused, Failed}

-- the fault of a text that is too long, not UTF-8 or no TOML document
abbrev pub no_document : TableFault
no_document = record { rule = NotToml; section = Top; index = 0 }

-- the fault of a text that is too long, not UTF-8 or no JSON document
abbrev pub no_json : Fault
no_json = record { rule = NotJson; place = TopPlace }

pub over : (n m : ℕ) → m < n → nat_le n m ≡ false
over n m h = grind (arith, nat_tests)

-- a text past its limit is no document
long_text : (text : List ℕ) → TEXT_LIMIT < length text → tables_of text ≡ Err no_document
unfolding document_of
long_text text h = rw (over (length text) TEXT_LIMIT h) refl

-- nor is it a certificate
long_certificate : (text : List ℕ) → TEXT_LIMIT < length text → certificate_of text ≡ Err no_json
unfolding certificate_document_of
long_certificate text h = rw (over (length text) TEXT_LIMIT h) refl

pub refused_loads : (r : Option (List ℕ)) (u : Unloaded TableFault) → IfSome r (λ text. ReadsText no_document text (Err u)) → IfSome r (λ text. Loads (tables_of text) (Err u))
refused_loads None u h = tt
refused_loads (Some text) (Refused fault) (long, is) = inl (rw is (long_text text long))
refused_loads (Some text) (Failed failure) h = tt

pub refused_written : (r : Option (List ℕ)) (u : Unloaded TableFault) → IfSome r (λ text. ReadsText no_document text (Err u)) → IfSome r (λ text. LoadsWritten (tables_of text) (Err u))
refused_written None u h = tt
refused_written (Some text) (Refused fault) (long, is) = inl (rw is (long_text text long))
refused_written (Some text) (Failed failure) h = tt

pub refused_certificate : (r : Option (List ℕ)) (u : Unloaded Fault) → IfSome r (λ text. ReadsText no_json text (Err u)) → IfSome r (λ text. LoadsCertificate (certificate_of text) (Err u))
refused_certificate None u h = tt
refused_certificate (Some text) (Refused fault) (long, is) = rw is (long_certificate text long)
refused_certificate (Some text) (Failed failure) h = tt

-- what is said of the bytes that were read is so of the text
pub read_text : (r : Option (List ℕ)) (bytes items : List ℕ) (P : List ℕ → Type 0) → bytes ≡ items → IfSome r (λ text. items ≡ text) → P bytes → IfSome r P
read_text None bytes items P e h reported = tt
read_text (Some text) bytes items P e h reported = subst P (e ∙ h) reported

-- the tables were read, and what comes after them may be asked for
pub behind_read : (r : Option (List ℕ)) (t : TableRows) (untouched : Type 0) → IfSome r (λ text. Loads (tables_of text) (Ok t)) → IfSome r (λ text. OnlyBehind (tables_of text) untouched)
behind_read None t untouched reported = tt
behind_read (Some text) t untouched reported = inl (t, reported)

-- it was not asked for
pub behind_kept : (r : Option (List ℕ)) (untouched : Type 0) → untouched → IfSome r (λ text. OnlyBehind (tables_of text) untouched)
behind_kept None untouched h = tt
behind_kept (Some text) untouched h = inr h
