-- Tables with the digest of their text.
use Rattle.std.proofs.Common.{◌≡◌, ℕ, ◌++◌, List, [], ◌∷◌, subst, codes, IfSome, Option, Some, None, Result, Ok, Err}
use Rattle.sha2.specs.Sha256.{sha256}
use Rattle.dc_answer.specs.Answer.{Answer}
use Rattle.dc_answer.specs.Given.{AreTexts}
use Rattle.dc_answer.specs.Inputs.{Loads}
use Rattle.dc_answer.specs.Judging.{Keeps, Says}
use Rattle.dc_answer.specs.declared.exit.Outcome.{Outcome}
use Rattle.dc_answer.specs.declared.exit.Outcome.TheVariants.{Unreadable}
use Rattle.dc_answer.specs.declared.inputs.Unloaded.TheVariants.{Refused}
use Rattle.dc_answer.specs.declared.judge.Unjudged.{Unjudged}
use Rattle.dc_answer.specs.lemmas.Judgments.{kept_as}
use Rattle.dc_answer.specs.lemmas.Stages.{tables_refused}
use Rattle.dc_build.specs.Reported.{TellsTables}
use Rattle.dc_device.specs.States.{SourceState}
use Rattle.dc_document.specs.FaultText.{table_fault_text}
use Rattle.dc_document.specs.declared.fault.TableFault.{TableFault}
use Rattle.dc_tables.specs.TableRows.{TableRows}
use Rattle.dc_toml.specs.Reading.{tables_of}
use Rattle.dc_digest.specs.Behind.{AnswersDigested, LoadsDigested}

-- the tables alone
pub tables_loaded : (r : Option (List ℕ)) (known : TableRows × List ℕ) → IfSome r (λ text. LoadsDigested text (Ok known)) → IfSome r (λ text. Loads (tables_of text) (Ok known.0))
tables_loaded None known h = tt
tables_loaded (Some text) known h = h.0

module _ (Is : TableRows × List ℕ → List (List ℕ) → Answer → Type 0) (s : SourceState) (ss : List SourceState) (page : List ℕ) where
  pub digested_read : (known : TableRows × List ℕ) (result : Result Outcome Unjudged) → IfSome s.remaining (λ text. LoadsDigested text (Ok known))
      → ((texts : List (List ℕ)) → AreTexts ss texts → Keeps (Is known texts) page result) → (texts : List (List ℕ)) → AreTexts (s ∷ ss) texts → Keeps (AnswersDigested Is texts) page result
  digested_read known result loads judged [] are = absurd are
  digested_read known result loads judged (text ∷ texts) (e, are) =
      let here = rw e at loads in
      kept_as (Is known texts) (AnswersDigested Is (text ∷ texts)) page result
      (λ answer is. (Ok known.0, here.0, subst (λ d. Is (known.0, d) texts answer) here.1 is)) (judged texts are)

  pub digested_refused : (fault printed : TableFault) (line : List ℕ) → IfSome s.remaining (λ text. LoadsDigested text (Err (Refused fault))) → printed ≡ fault
      → line ≡ codes "unreadable " ++ table_fault_text printed → page ≡ line → (texts : List (List ℕ)) → AreTexts (s ∷ ss) texts → Says (AnswersDigested Is texts) page Unreadable
  digested_refused fault printed line loads at is same [] are = absurd are
  digested_refused fault printed line loads at is same (text ∷ texts) are =
      tables_refused TellsTables (λ t. Is (t, sha256 text)) s ss page fault printed line loads at is same (text ∷ texts) are
