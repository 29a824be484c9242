-- What the yes of `check` says of two files.
use Rattle.std.specs.Prelude.{◌≡◌, ◌≢◌, ◌⊎◌, ℕ, Bool, List, [], ◌∷◌, ◌++◌, Some, Ok, Err}
use Rattle.std.specs.Io.KnownBytes.{Appends}
use Rattle.dc_answer.specs.declared.exit.Exit.{Exit}
use Rattle.dc_answer.specs.declared.exit.Exit.TheVariants.{Done, Failed}
use Rattle.dc_build.specs.Reported.{AreTablesOf, TellsTables}
use Rattle.dc_cert.specs.NamedRows.{NamedRows}
use Rattle.dc_cert.specs.Reading.{certificate_of}
use Rattle.dc_cert.specs.declared.fault.Fault.{Fault}
use Rattle.dc_check.specs.Accepts.{Accepts}
use Rattle.dc_command.specs.declared.asked.Order.{Order}
use Rattle.dc_command.specs.declared.asked.Order.TheVariants.{Check}
use Rattle.dc_device.specs.States.{SinkState}
use Rattle.dc_document.specs.declared.fault.BuildError.TheVariants.{Refused}
use Rattle.dc_document.specs.declared.fault.TableFault.{TableFault}
use Rattle.dc_print.specs.Verdicts.{accepted_text}
use Rattle.dc_program.specs.World.{WorldState}
use Rattle.dc_run.specs.Check.{AreCertified}
use Rattle.dc_digest.specs.Digests.{told_behind}
use Rattle.dc_tables.specs.TableRows.{TableRows}
use Rattle.dc_toml.specs.Reading.{tables_of}

-- The texts are those of tables and of a certificate that is accepted for them and keeps its claims, and the line
-- `accepted ..` of tables that the text says was written, and nothing else but the digests of both, where they are told.
pub record SaysAccepted (digest : Bool) (tables certificate : List ℕ) (sink sink' : SinkState) : Type 0 where
  pub certified : AreCertified tables certificate
  pub rows : TableRows
  pub read : AreTablesOf (tables_of tables) rows
  pub written : Appends sink.contents sink'.contents (accepted_text rows ++ 10 ∷ told_behind digest tables certificate)

-- a text has a first fault, as one of tables
abbrev pub AreNoTables : List ℕ → Type 0
AreNoTables tables = (fault : TableFault) × TellsTables (tables_of tables) (Err (Refused fault))

-- a text has a fault, as one of a certificate, or the certificate that it says is not accepted for these tables
abbrev pub IsNotAccepted : TableRows → List ℕ → Type 0
IsNotAccepted rows certificate =
    ((fault : Fault) × (certificate_of certificate ≡ Err fault)) ⊎ ((claims : NamedRows) × (certificate_of certificate ≡ Ok claims) × (¬ Accepts rows claims))

-- the texts are none of tables and of a certificate that is accepted for them
abbrev pub AreNotAccepted : List ℕ → List ℕ → Type 0
AreNotAccepted tables certificate = AreNoTables tables ⊎ ((rows : TableRows) × AreTablesOf (tables_of tables) rows × IsNotAccepted rows certificate)

-- of two texts: `Done` says that they are accepted, and any other exit that they are not, unless something failed
pub record Decides (digest : Bool) (tables certificate : List ℕ) (sink sink' : SinkState) (exit : Exit) : Type 0 where
  pub yes : exit ≡ Done → SaysAccepted digest tables certificate sink sink'
  pub no : exit ≢ Done → exit ≢ Failed → AreNotAccepted tables certificate

-- of the files that `check` names, where their texts are known
abbrev pub DecidesFiles : Order → WorldState → SinkState → SinkState → Exit → Type 0
DecidesFiles (Check tables certificate workers digest) w sink sink' exit =
    (rows claims : List ℕ) → w.holds tables.now ≡ Some rows → w.holds certificate.now ≡ Some claims → Decides digest rows claims sink sink' exit
DecidesFiles _ w sink sink' exit = Unit {0}
