-- The concentrators of a system by the texts of their files.
use Rattle.std.specs.Prelude.{◌≡◌, ◌≢◌, ℕ, ◌<◌, List, Option, Some, None, Ok, Err, Result, length, slice_index_or, codes}
use Rattle.dc_answer.specs.Answer.{one_line}
use Rattle.dc_answer.specs.declared.exit.Outcome.TheVariants.{Done}
use Rattle.dc_build.specs.Reported.{AreWrittenBy}
use Rattle.dc_build.specs.Written.{WrittenRows}
use Rattle.dc_cert.specs.NamedRows.{NamedRows, named_rows}
use Rattle.dc_cert.specs.Reading.{certificate_of}
use Rattle.dc_cert.specs.declared.certificate.Certificate.{Certificate}
use Rattle.dc_check.specs.Accepts.{Accepts}
use Rattle.dc_check.specs.Verdict.{verdict_of}
use Rattle.dc_run.specs.Check.{AnswersCheck}
use Rattle.dc_system_text.specs.System.{ConcentratorRow}
use Rattle.dc_toml.specs.Reading.{tables_of}
use Rattle.dc_ways.specs.Members.{MemberRows, concentrator}
use Rattle.dc_run_network.specs.Lines.{at_text, no_row}
use Rattle.dc_run_network.specs.Paths.{path_of}
use Rattle.dc_run_network.specs.declared.members.Halt.{Halt}
use Rattle.dc_run_network.specs.declared.members.Halt.TheVariants.{Told, NoFile, Memory, Threads}

-- what the files hold, by their names, where it is known
abbrev pub Holds : Type 0
Holds = List ℕ → Option (List ℕ)

-- ---- one concentrator

-- the texts are those of its tables and of its certificate, which is accepted for them
pub record IsMemberOf (tables certificate : List ℕ) (m : MemberRows) : Type 0 where
  pub tables_read : AreWrittenBy (tables_of tables) m.written
  pub certificate_read : certificate_of certificate ≡ Ok m.claims
  pub accepted : Accepts m.written.tables m.claims

-- the line that is told of texts that are no concentrator's: what `check` answers to them
abbrev pub AnswersHalt : (tables certificate line : List ℕ) → Halt → Type 0
AnswersHalt tables certificate line (Told outcome) = AnswersCheck tables certificate (one_line line outcome)
AnswersHalt tables certificate line NoFile = Unit {0}
AnswersHalt tables certificate line Memory = Unit {0}
AnswersHalt tables certificate line Threads = Unit {0}

-- what is known of the line whatever the texts are: it is no yes; or it tells of a file that was not to be had
abbrev pub IsSaid : (line : List ℕ) → Halt → Type 0
IsSaid line (Told outcome) = outcome ≢ Done
IsSaid line NoFile = line ≡ codes "failed device"
IsSaid line Memory = Unit {0}
IsSaid line Threads = Unit {0}

-- what was read of the text of tables; where that can't be read, the line says so, whatever the certificate is
abbrev pub ReadsTables : (tables line : List ℕ) → Result WrittenRows Halt → Type 0
ReadsTables tables line (Ok w) = AreWrittenBy (tables_of tables) w
ReadsTables tables line (Err halt) = (certificate : List ℕ) → AnswersHalt tables certificate line halt

-- what was read of the text of a certificate; where that can't be read, the line says so behind any tables
abbrev pub ReadsCertificate : (certificate line : List ℕ) → Result Certificate Halt → Type 0
ReadsCertificate certificate line (Ok c) = certificate_of certificate ≡ Ok (named_rows c)
ReadsCertificate certificate line (Err halt) = (tables : List ℕ) (w : WrittenRows) → AreWrittenBy (tables_of tables) w → AnswersHalt tables certificate line halt

-- what was judged of a certificate for these tables: it is accepted; or the line says that it is not, whatever texts they are of
abbrev pub JudgesClaims : WrittenRows → NamedRows → (line : List ℕ) → Result (Unit {0}) Halt → Type 0
JudgesClaims w claims line (Ok x) = verdict_of w.tables claims ≡ None
JudgesClaims w claims line (Err halt) = (tables certificate : List ℕ) → AreWrittenBy (tables_of tables) w → certificate_of certificate ≡ Ok claims → AnswersHalt tables certificate line halt

-- the texts of its files, where they are known
abbrev pub OfTexts : Holds → (folder : List ℕ) → ConcentratorRow → (List ℕ → List ℕ → Type 0) → Type 0
OfTexts holds folder c P = (tables certificate : List ℕ) → holds (path_of folder c.tables) ≡ Some tables → holds (path_of folder c.certificate) ≡ Some certificate → P tables certificate

-- it is that of its files
abbrev pub IsMemberAt : Holds → (folder : List ℕ) → ConcentratorRow → MemberRows → Type 0
IsMemberAt holds folder c m = OfTexts holds folder c (λ tables certificate. IsMemberOf tables certificate m)

-- this line is told of it behind its name: what `check` answers to its files, or that one of them was not to be had
pub record TellsHalt (holds : Holds) (folder : List ℕ) (c : ConcentratorRow) (page : List ℕ) (halt : Halt) : Type 0 where
  pub line : List ℕ
  pub behind : page ≡ at_text c.name line
  pub said : IsSaid line halt
  pub answers : OfTexts holds folder c (λ tables certificate. AnswersHalt tables certificate line halt)

-- what was told of it behind its name, where this line was to be told, or for want of memory or of a thread nothing
abbrev pub TellsBehind : (name line page : List ℕ) → Halt → Halt → Type 0
TellsBehind name line page halt Memory = Unit {0}
TellsBehind name line page halt Threads = Unit {0}
TellsBehind name line page halt (Told outcome) = (page ≡ at_text name line) × (halt ≡ Told outcome)
TellsBehind name line page halt NoFile = (page ≡ at_text name line) × (halt ≡ NoFile)

-- the same; of want of memory or of a thread nothing is told
abbrev pub IsHaltAt : Holds → (folder : List ℕ) → ConcentratorRow → (page : List ℕ) → Halt → Type 0
IsHaltAt holds folder c page (Told outcome) = TellsHalt holds folder c page (Told outcome)
IsHaltAt holds folder c page NoFile = TellsHalt holds folder c page NoFile
IsHaltAt holds folder c page Memory = Unit {0}
IsHaltAt holds folder c page Threads = Unit {0}

-- ---- all of them

-- concentrator i of the text
abbrev pub row_at : List ConcentratorRow → ℕ → ConcentratorRow
row_at cs i = slice_index_or cs i no_row

-- the first n are those of their files
abbrev pub AreMembersTo : Holds → (folder : List ℕ) → List ConcentratorRow → List MemberRows → (n : ℕ) → Type 0
AreMembersTo holds folder cs members n = (i : ℕ) → i < n → IsMemberAt holds folder (row_at cs i) (concentrator members i)

-- each is that of its files
pub record AreMembers (holds : Holds) (folder : List ℕ) (cs : List ConcentratorRow) (members : List MemberRows) : Type 0 where
  pub each : length members ≡ length cs
  pub are : AreMembersTo holds folder cs members (length cs)

-- this is told of the first that is not accepted, where those before it are
pub record HaltsFirst (holds : Holds) (folder : List ℕ) (cs : List ConcentratorRow) (page : List ℕ) (halt : Halt) : Type 0 where
  pub index : ℕ
  pub there : index < length cs
  pub members : List MemberRows
  pub before : AreMembersTo holds folder cs members index
  pub told : IsHaltAt holds folder (row_at cs index) page halt

-- the same; of want of memory or of a thread nothing is told
abbrev pub Halts : Holds → (folder : List ℕ) → List ConcentratorRow → (page : List ℕ) → Halt → Type 0
Halts holds folder cs page (Told outcome) = HaltsFirst holds folder cs page (Told outcome)
Halts holds folder cs page NoFile = HaltsFirst holds folder cs page NoFile
Halts holds folder cs page Memory = Unit {0}
Halts holds folder cs page Threads = Unit {0}
