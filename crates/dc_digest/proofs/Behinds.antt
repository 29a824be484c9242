-- Digests behind an answer.
use Rattle.std.proofs.Common.{◌≡◌, ℕ, ◌+◌, ◌≤◌, ◌++◌, List, [], ◌∷◌, length, refl, sym, ◌∙◌, ap, subst, append_assoc, arith, codes, IfOk, IfSome, Some, Result, Ok, Err}
use Rattle.hex.specs.Hex.{encode_lower}
use Rattle.sha2.specs.Sha256.{sha256}
use Rattle.dc_answer.specs.Answer.{Answer}
use Rattle.dc_answer.specs.Given.{AreTexts}
use Rattle.dc_answer.specs.Inputs.{AnswersCertificate, ReadsText}
use Rattle.dc_answer.specs.Judging.{Keeps, Says}
use Rattle.dc_answer.specs.declared.exit.Outcome.{Outcome}
use Rattle.dc_answer.specs.declared.exit.Outcome.TheVariants.{Unreadable}
use Rattle.dc_answer.specs.declared.inputs.Unloaded.TheVariants.{Refused}
use Rattle.dc_answer.specs.declared.judge.Unjudged.{Unjudged}
use Rattle.dc_answer.specs.lemmas.Loading.{no_json, refused_certificate}
use Rattle.dc_answer.specs.lemmas.Stages.{certificate_read, certificate_refused}
use Rattle.dc_cert.specs.Faults.{fault_text}
use Rattle.dc_cert.specs.NamedRows.{named_rows}
use Rattle.dc_cert.specs.Reading.{certificate_of}
use Rattle.dc_cert.specs.declared.certificate.Certificate.{Certificate}
use Rattle.dc_cert.specs.declared.fault.Fault.{Fault}
use Rattle.dc_device.specs.Lines.{spelled}
use Rattle.dc_device.specs.States.{SourceState}
use Rattle.dc_device.specs.lemmas.LineLemmas.{spelled-append}
use Rattle.dc_document.specs.declared.limits.TheConstants.{TEXT_LIMIT}
use Rattle.dc_digest.specs.Behind.{AnswersBehind, behind}
use Rattle.dc_digest.specs.lemmas.Behind.{long_behind, whole_behind}

-- where a text is refused, nothing has failed, of its source and those behind it
pub refused_raised : (a a' b : ℕ) → a' ≡ a + 0 → a' + b ≡ a + b
refused_raised a a' b h = omega (arith, h)

-- ---- lines

-- two lines behind a page
two_behind : (page x y : List ℕ) (lines : List (List ℕ)) → page ++ 10 ∷ [] ≡ spelled lines → ((page ++ 10 ∷ x) ++ 10 ∷ y) ++ 10 ∷ [] ≡ spelled (lines ++ x ∷ y ∷ [])
two_behind page x y lines same =
    let there : ((page ++ 10 ∷ x) ++ 10 ∷ y) ++ 10 ∷ [] ≡ (page ++ 10 ∷ []) ++ (x ++ 10 ∷ (y ++ 10 ∷ [])) = append_assoc (page ++ 10 ∷ x) (10 ∷ y) (10 ∷ []) ∙ (append_assoc page (10 ∷ x) (10 ∷ (y ++ 10 ∷ [])) ∙ sym (append_assoc page (10 ∷ []) (x ++ 10 ∷ (y ++ 10 ∷ [])))) in
    there ∙ (ap (λ l. l ++ (x ++ 10 ∷ (y ++ 10 ∷ []))) same ∙ sym (spelled-append lines (x ∷ y ∷ [])))

-- ---- a certificate

module _ (digest : List ℕ) (Is : Certificate → List (List ℕ) → Answer → Type 0) where
  -- the digests were put behind the answer to a text that was read whole
  pub behind_kept : (text page page' : List ℕ) (outcome : Outcome) (result : Result Outcome Unjudged) → length text ≤ TEXT_LIMIT → Says (AnswersCertificate Is (text ∷ [])) page outcome
      → IfOk result (λ o. (o ≡ outcome) × (page' ≡ (page ++ 10 ∷ (codes "sha256 tables " ++ encode_lower digest)) ++ 10 ∷ (codes "sha256 certificate " ++ encode_lower (sha256 text))))
      → Keeps (AnswersBehind digest Is (text ∷ [])) page' result
  behind_kept text page page' outcome (Ok o) whole (plain, is, same, ends) (at, put) =
      let x : List ℕ = codes "sha256 tables " ++ encode_lower digest in
      let y : List ℕ = codes "sha256 certificate " ++ encode_lower (sha256 text) in
      let told = whole_behind digest text plain whole in (
        behind digest text plain,
        (plain, is, refl),
        ap (λ l. l ++ 10 ∷ []) put ∙ (two_behind page x y plain.lines same ∙ ap (λ (a : Answer). spelled a.lines) (sym told)),
        at ∙ (ends ∙ ap (λ (a : Answer). a.outcome) (sym told)),
      )
  behind_kept text page page' outcome (Err e) whole h put = tt

  -- the text of the source was read whole
  pub read_whole : (s : SourceState) (items bytes page : List ℕ) (result : Result Outcome Unjudged) → IfSome s.remaining (λ text. items ≡ text) → bytes ≡ items
      → Keeps (AnswersBehind digest Is (bytes ∷ [])) page result → (texts : List (List ℕ)) → AreTexts (s ∷ []) texts → Keeps (AnswersBehind digest Is texts) page result
  read_whole s items bytes page result read is kept [] are = absurd are
  read_whole s items bytes page result read is kept (text ∷ []) (e, are) =
      let same : items ≡ text = rw e at read in subst (λ t. Keeps (AnswersBehind digest Is (t ∷ [])) page result) (is ∙ same) kept
  read_whole s items bytes page result read is kept (text ∷ more ∷ texts) (e, are) = absurd are

  -- it is too long
  pub long_refused : (s : SourceState) (fault printed : Fault) (page : List ℕ) (outcome : Outcome) → IfSome s.remaining (λ text. ReadsText no_json text (Err (Refused fault))) → printed ≡ fault
      → page ≡ codes "unreadable " ++ fault_text printed → outcome ≡ Unreadable → (texts : List (List ℕ)) → AreTexts (s ∷ []) texts → Says (AnswersBehind digest Is texts) page outcome
  long_refused s fault printed page outcome read at is ends [] are = absurd are
  long_refused s fault printed page outcome read at is ends (text ∷ texts) (e, are) =
      let here = rw e at read in
      let (plain, answers, same, was) = certificate_refused Is s [] page fault printed (codes "unreadable " ++ fault_text printed) (refused_certificate s.remaining (Refused fault) read) at refl is (text ∷ texts) (e, are) in
      (plain, (plain, answers, sym (long_behind digest text plain here.0)), same, ends ∙ was)

-- ---- its text alone

-- a source that gives this text
abbrev source_of : List ℕ → SourceState
source_of text = record { remaining = Some text; failed = 0; asked = 0; dry = 0 }

module _ (Is : Certificate → List (List ℕ) → Answer → Type 0) (text page : List ℕ) where
  pub text_read : (c : Certificate) (result : Result Outcome Unjudged) → certificate_of text ≡ Ok (named_rows c)
      → ((texts : List (List ℕ)) → AreTexts [] texts → Keeps (Is c texts) page result) → Keeps (AnswersCertificate Is (text ∷ [])) page result
  text_read c result reads judged = certificate_read Is (source_of text) [] page c result reads judged (text ∷ []) (refl, tt)

  pub text_refused : (fault printed : Fault) (outcome : Outcome) → certificate_of text ≡ Err fault → printed ≡ fault → page ≡ codes "unreadable " ++ fault_text printed → outcome ≡ Unreadable
      → Says (AnswersCertificate Is (text ∷ [])) page outcome
  text_refused fault printed outcome reads at is ends =
      let said = certificate_refused Is (source_of text) [] page fault printed (codes "unreadable " ++ fault_text printed) reads at refl is (text ∷ []) (refl, tt) in
      subst (λ o. Says (AnswersCertificate Is (text ∷ [])) page o) (sym ends) said
