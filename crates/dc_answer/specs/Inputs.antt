-- Tables and certificates from a source.
use Rattle.std.specs.Prelude.{◌≡◌, ◌⊎◌, ℕ, ◌<◌, List, [], ◌∷◌, length, Result, Ok, Err}
use Rattle.std.specs.Global.{Vec}
use Rattle.dc_cert.specs.Faults.{fault_text}
use Rattle.dc_cert.specs.NamedRows.{NamedRows, named_rows}
use Rattle.dc_cert.specs.Reading.{Reading as CertificateReading, certificate_of}
use Rattle.dc_cert.specs.declared.certificate.Certificate.{Certificate}
use Rattle.dc_cert.specs.declared.fault.Fault.{Fault}
use Rattle.dc_document.specs.FaultText.{table_fault_text}
use Rattle.dc_document.specs.declared.fault.BuildError.{BuildError}
use Rattle.dc_document.specs.declared.fault.BuildError.TheVariants.{Refused as RefusedTables, Memory as NoTables}
use Rattle.dc_document.specs.declared.fault.TableFault.{TableFault}
use Rattle.dc_tables.specs.TableRows.{TableRows}
use Rattle.dc_toml.specs.Faults.{Reading}
use Rattle.dc_toml.specs.Reading.{tables_of}
use Rattle.dc_build.specs.Reported.{AreTablesOf, TellsTables, TellsWritten}
use Rattle.dc_build.specs.Written.{WrittenRows}
use Rattle.dc_toml.specs.Written.{Written}
use Rattle.dc_document.specs.declared.limits.TheConstants.{TEXT_LIMIT}
use Rattle.dc_answer.specs.Answer.{Answer, unreadable}
use Rattle.dc_answer.specs.declared.answer.Failure.TheVariants.{Source, Sink, Memory}
use Rattle.dc_answer.specs.declared.inputs.Unloaded.{Unloaded}
use Rattle.dc_answer.specs.declared.inputs.Unloaded.TheVariants.{Refused, Failed}

-- the whole text, or this fault where it is longer than a text may be; something else may fail with any text
abbrev pub ReadsText : {F : Type 0} → F → List ℕ → Result (Vec ℕ) (Unloaded F) → Type 0
ReadsText too_long text (Ok bytes) = bytes.items ≡ text
ReadsText too_long text (Err (Refused fault)) = (TEXT_LIMIT < length text) × (fault ≡ too_long)
ReadsText too_long text (Err (Failed failure)) = Unit {0}

-- what such texts say, as `Tells` has it, or their first fault; something else may fail with any text
abbrev pub LoadsBy : {X : Type 0} → (Reading Written → Result X BuildError → Type 0) → Reading Written → Result X (Unloaded TableFault) → Type 0
LoadsBy Tells reading (Ok x) = Tells reading (Ok x)
LoadsBy Tells reading (Err (Refused fault)) = Tells reading (Err (RefusedTables fault))
LoadsBy Tells reading (Err (Failed failure)) = Unit {0}

-- the tables of a text that reads so
abbrev pub Loads : Reading Written → Result TableRows (Unloaded TableFault) → Type 0
Loads = LoadsBy TellsTables

-- they beside its document
abbrev pub LoadsWritten : Reading Written → Result WrittenRows (Unloaded TableFault) → Type 0
LoadsWritten = LoadsBy TellsWritten

-- the answer to the first fault of the tables
abbrev pub tables_end : TableFault → Answer
tables_end f = unreadable (table_fault_text f)

-- the certificate of a text that reads so, or its first fault; something else may fail with any text
abbrev pub LoadsCertificate : CertificateReading NamedRows → Result Certificate (Unloaded Fault) → Type 0
LoadsCertificate reading (Ok certificate) = reading ≡ Ok (named_rows certificate)
LoadsCertificate reading (Err (Refused fault)) = reading ≡ Err fault
LoadsCertificate reading (Err (Failed failure)) = Unit {0}

-- how many failures of the source a result counts
abbrev pub failed_in : {T F : Type 0} → Result T (Unloaded F) → ℕ
failed_in (Ok x) = 0
failed_in (Err (Refused fault)) = 0
failed_in (Err (Failed Source)) = 1
failed_in (Err (Failed Sink)) = 0
failed_in (Err (Failed Memory)) = 0

-- what comes after the tables is asked for only where their text, that reads so, is that of tables; else it is untouched
abbrev pub OnlyBehind : Reading Written → Type 0 → Type 0
OnlyBehind reading untouched = ((rows : TableRows) × AreTablesOf reading rows) ⊎ untouched

-- ---- what is answered to texts

-- to what was read of tables, and the texts behind theirs; or to their first fault
abbrev pub AnswersRead : {X : Type 0} → (X → List (List ℕ) → Answer → Type 0) → List (List ℕ) → Answer → Result X BuildError → Type 0
AnswersRead Is texts answer (Ok x) = Is x texts answer
AnswersRead Is texts answer (Err (RefusedTables fault)) = answer ≡ tables_end fault
AnswersRead Is texts answer (Err (NoTables e)) = ⊥

-- to the text of tables and those behind it: the tables are judged first
abbrev pub AnswersBy : {X : Type 0} → (Reading Written → Result X BuildError → Type 0) → (X → List (List ℕ) → Answer → Type 0) → List (List ℕ) → Answer → Type 0
AnswersBy Tells Is [] answer = ⊥
AnswersBy {X} Tells Is (text ∷ texts) answer = (read : Result X BuildError) × Tells (tables_of text) read × AnswersRead Is texts answer read

-- where the tables alone are known behind them
abbrev pub AnswersTables : (TableRows → List (List ℕ) → Answer → Type 0) → List (List ℕ) → Answer → Type 0
AnswersTables = AnswersBy TellsTables

-- where they are known beside their document
abbrev pub AnswersWritten : (WrittenRows → List (List ℕ) → Answer → Type 0) → List (List ℕ) → Answer → Type 0
AnswersWritten = AnswersBy TellsWritten

-- they are asked for where the first text is that of tables, and so on
abbrev pub GoOnBy : {X : Type 0} → (Reading Written → Result X BuildError → Type 0) → (X → List (List ℕ) → Type 0) → List (List ℕ) → Type 0
GoOnBy Tells GoesOn [] = Unit {0}
GoOnBy {X} Tells GoesOn (text ∷ texts) = (x : X) × Tells (tables_of text) (Ok x) × GoesOn x texts

abbrev pub TablesGoOn : (TableRows → List (List ℕ) → Type 0) → List (List ℕ) → Type 0
TablesGoOn = GoOnBy TellsTables

abbrev pub WrittenGoOn : (WrittenRows → List (List ℕ) → Type 0) → List (List ℕ) → Type 0
WrittenGoOn = GoOnBy TellsWritten

-- to a certificate that reads so, and the texts behind it; or to its first fault
abbrev pub AnswersClaims : (Certificate → List (List ℕ) → Answer → Type 0) → List (List ℕ) → Answer → CertificateReading NamedRows → Type 0
AnswersClaims Is texts answer (Ok claims) = (certificate : Certificate) × (named_rows certificate ≡ claims) × Is certificate texts answer
AnswersClaims Is texts answer (Err fault) = answer ≡ unreadable (fault_text fault)

-- to the text of a certificate and those behind it
abbrev pub AnswersCertificate : (Certificate → List (List ℕ) → Answer → Type 0) → List (List ℕ) → Answer → Type 0
AnswersCertificate Is [] answer = ⊥
AnswersCertificate Is (text ∷ texts) answer = AnswersClaims Is texts answer (certificate_of text)

-- they are asked for where it is one, and so on
abbrev pub CertificateGoesOn : (Certificate → List (List ℕ) → Type 0) → List (List ℕ) → Type 0
CertificateGoesOn GoesOn [] = Unit {0}
CertificateGoesOn GoesOn (text ∷ texts) = (certificate : Certificate) × (certificate_of text ≡ Ok (named_rows certificate)) × GoesOn certificate texts
