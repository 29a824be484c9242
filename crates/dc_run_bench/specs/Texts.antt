-- What is answered to the texts of tables and of a certificate, by what is answered to a certificate for tables.
use Rattle.std.specs.Prelude.{◌≡◌, ℕ, List, Result, Ok, Err}
use Rattle.dc_cert.specs.Faults.{fault_text}
use Rattle.dc_cert.specs.NamedRows.{NamedRows}
use Rattle.dc_cert.specs.Reading.{Reading, certificate_of}
use Rattle.dc_document.specs.declared.fault.BuildError.{BuildError}
use Rattle.dc_document.specs.declared.fault.BuildError.TheVariants.{Refused, Memory as NoMemory}
use Rattle.dc_tables.specs.TableRows.{TableRows}
use Rattle.dc_toml.specs.Reading.{tables_of}
use Rattle.dc_build.specs.Reported.{TellsTables}
use Rattle.dc_answer.specs.Answer.{Answer, unreadable}
use Rattle.dc_answer.specs.Inputs.{tables_end}

-- to a certificate that reads so
abbrev pub AnswersClaims : (TableRows → NamedRows → Answer → Type 0) → TableRows → Reading NamedRows → Answer → Type 0
AnswersClaims Is t (Ok claims) answer = Is t claims answer
AnswersClaims Is t (Err fault) answer = answer ≡ unreadable (fault_text fault)

-- to the text of a certificate, where the tables read so: they are judged first
abbrev pub AnswersTables : (TableRows → NamedRows → Answer → Type 0) → List ℕ → Result TableRows BuildError → Answer → Type 0
AnswersTables Is certificate (Ok t) answer = AnswersClaims Is t (certificate_of certificate) answer
AnswersTables Is certificate (Err (Refused fault)) answer = answer ≡ tables_end fault
AnswersTables Is certificate (Err (NoMemory e)) answer = ⊥

-- to both texts
abbrev pub AnswersTexts : (TableRows → NamedRows → Answer → Type 0) → List ℕ → List ℕ → Answer → Type 0
AnswersTexts Is tables certificate answer = (read : Result TableRows BuildError) × TellsTables (tables_of tables) read × AnswersTables Is certificate read answer
