-- What `check --digest` answers to the texts of tables and of a certificate: what `check` does, and behind it the digests of both.
use Rattle.std.specs.Prelude.{◌≡◌, ℕ, Bool, true, false, Option, List, [], Result, Ok, Err}
use Rattle.sha2.specs.Sha256.{sha256}
use Rattle.dc_answer.specs.Answer.{Answer, Reported, WholeOrNone}
use Rattle.dc_answer.specs.Exits.{is_answered}
use Rattle.dc_answer.specs.Inputs.{tables_end}
use Rattle.dc_answer.specs.declared.exit.Exit.{Exit}
use Rattle.dc_answer.specs.declared.exit.Exit.TheVariants.{Done}
use Rattle.dc_build.specs.Reported.{TellsTables}
use Rattle.dc_cert.specs.Reading.{certificate_of}
use Rattle.dc_device.specs.Lines.{spelled}
use Rattle.dc_document.specs.declared.fault.BuildError.{BuildError}
use Rattle.dc_document.specs.declared.fault.BuildError.TheVariants.{Refused, Memory as NoMemory}
use Rattle.dc_run.specs.Check.{AreCertified, answer_claims}
use Rattle.dc_digest.specs.Behind.{behind, digest_lines}
use Rattle.dc_tables.specs.TableRows.{TableRows}
use Rattle.dc_toml.specs.Reading.{tables_of}

-- ---- the answer

-- to the text of a certificate, where the tables read so: they are judged first
abbrev pub AnswersRead : List ℕ → List ℕ → Answer → Result TableRows BuildError → Type 0
AnswersRead tables certificate answer (Ok t) = answer ≡ behind (sha256 tables) certificate (answer_claims t (certificate_of certificate))
AnswersRead tables certificate answer (Err (Refused fault)) = answer ≡ tables_end fault
AnswersRead tables certificate answer (Err (NoMemory e)) = ⊥

-- to both texts
abbrev pub AnswersDigests : List ℕ → List ℕ → Answer → Type 0
AnswersDigests tables certificate answer = (read : Result TableRows BuildError) × TellsTables (tables_of tables) read × AnswersRead tables certificate answer read

-- ---- what is reported

-- What `check --digest` reports, where its sources and its sink failed so often before and after it; where it ends well, the
-- certificate keeps its claims.
pub record ReportsDigests (tables certificate : List ℕ) (old new : Option (List ℕ)) (sources sources' sink sink' : ℕ) (exit : Exit) : Type 0 where
  pub reported : Reported (WholeOrNone (AnswersDigests tables certificate) (is_answered exit)) old new sources sources' sink sink' exit
  pub certified : exit ≡ Done → AreCertified tables certificate

-- the text that stands behind the line of an accepted certificate
abbrev pub told_behind : Bool → List ℕ → List ℕ → List ℕ
told_behind true tables certificate = spelled (digest_lines (sha256 tables) (sha256 certificate))
told_behind false tables certificate = []
