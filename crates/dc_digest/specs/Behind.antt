-- The digests of two texts behind an answer, and how they are come by.
use Rattle.std.specs.Prelude.{◌≡◌, ℕ, nat_le, if◌then◌else◌, List, [], ◌∷◌, ◌++◌, length, codes, Result, Ok, Err}
use Rattle.hex.specs.Hex.{encode_lower}
use Rattle.sha2.specs.Sha256.{sha256}
use Rattle.dc_answer.specs.Answer.{Answer}
use Rattle.dc_answer.specs.Inputs.{AnswersCertificate, AnswersTables, Loads}
use Rattle.dc_answer.specs.declared.inputs.Unloaded.{Unloaded}
use Rattle.dc_cert.specs.declared.certificate.Certificate.{Certificate}
use Rattle.dc_document.specs.declared.fault.TableFault.{TableFault}
use Rattle.dc_document.specs.declared.limits.TheConstants.{TEXT_LIMIT}
use Rattle.dc_tables.specs.TableRows.{TableRows}
use Rattle.dc_toml.specs.Reading.{tables_of}

-- ---- the lines

-- the lines of the digests of tables and of a certificate
abbrev pub digest_lines : List ℕ → List ℕ → List (List ℕ)
digest_lines tables certificate = (codes "sha256 tables " ++ encode_lower tables) ∷ (codes "sha256 certificate " ++ encode_lower certificate) ∷ []

-- an answer with these lines behind it
abbrev pub with_lines : List (List ℕ) → Answer → Answer
with_lines more answer = record { lines = answer.lines ++ more; outcome = answer.outcome }

-- the answer to tables with this digest and the text of a certificate, with both digests behind it where that was read whole
abbrev pub behind : List ℕ → List ℕ → Answer → Answer
behind digest certificate answer =
    if nat_le (length certificate) TEXT_LIMIT then with_lines (digest_lines digest (sha256 certificate)) answer else answer

-- ---- the stages

-- the tables of a text with its digest, or its first fault; something else may fail with any text
abbrev pub LoadsDigested : List ℕ → Result (TableRows × List ℕ) (Unloaded TableFault) → Type 0
LoadsDigested text (Ok known) = Loads (tables_of text) (Ok known.0) × (known.1 ≡ sha256 text)
LoadsDigested text (Err unloaded) = Loads (tables_of text) (Err unloaded)

-- to the text of tables, where they are known with its digest behind it, and the texts behind theirs
abbrev pub AnswersDigested : (TableRows × List ℕ → List (List ℕ) → Answer → Type 0) → List (List ℕ) → Answer → Type 0
AnswersDigested Is [] answer = ⊥
AnswersDigested Is (text ∷ texts) answer = AnswersTables (λ t. Is (t, sha256 text)) (text ∷ texts) answer

-- to the text of a certificate, for tables whose text has this digest
abbrev pub AnswersBehind : List ℕ → (Certificate → List (List ℕ) → Answer → Type 0) → List (List ℕ) → Answer → Type 0
AnswersBehind digest Is [] answer = ⊥
AnswersBehind digest Is (text ∷ texts) answer = (plain : Answer) × AnswersCertificate Is (text ∷ texts) plain × (answer ≡ behind digest text plain)
