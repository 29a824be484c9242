-- What is answered only behind an accepted certificate.
use Rattle.std.proofs.Common.{◌≡◌, ◌≢◌, ◌⊎◌, ℕ, List, length, ◌∙◌, ap, Option, Some, None, Result, Ok, inl, inr}
use Rattle.dc_cert.specs.NamedRows.{NamedRows}
use Rattle.dc_check.specs.Verdict.{verdict_of}
use Rattle.dc_check.specs.declared.fault.CheckFault.{CheckFault}
use Rattle.dc_device.specs.States.{SourceState}
use Rattle.dc_tables.specs.TableRows.{TableRows}
use Rattle.dc_answer.specs.Answer.{Answer}
use Rattle.dc_answer.specs.Given.{AreTexts, OnlyAfter}
use Rattle.dc_answer.specs.Judging.{Keeps, Says}
use Rattle.dc_answer.specs.declared.exit.Outcome.{Outcome}
use Rattle.dc_answer.specs.declared.exit.Outcome.TheVariants.{Done as WasDone}
use Rattle.dc_answer.specs.declared.judge.Unjudged.{Unjudged}
use Rattle.dc_answer.specs.lemmas.Judgments.{kept_as}
use Rattle.dc_run.specs.Check.{AnswersVerdict, Certifies, answer_verdict}
use Rattle.dc_run.specs.Stages.{AnswersAccepted}
use Rattle.dc_run.proofs.Checking.{accepted_none}

module _ (t : TableRows) (claims : NamedRows) (page : List ℕ) (outcome : Outcome) (Is : List (List ℕ) → Answer → Type 0) (states : List SourceState) where
  pub accepted_judged : (after : List ℕ) (result : Result Outcome Unjudged) → Says (AnswersVerdict t claims) page outcome → outcome ≡ WasDone
      → ((texts : List (List ℕ)) → AreTexts states texts → Keeps (Is texts) after result)
      → (texts : List (List ℕ)) → AreTexts states texts → Keeps (λ answer. AnswersAccepted t (Is texts) answer (verdict_of t claims)) after result
  accepted_judged after result says done judged texts are =
      let none = (accepted_none t claims page outcome says done).0 in
      kept_as (Is texts) (λ answer. AnswersAccepted t (Is texts) answer (verdict_of t claims)) after result (λ answer is. rw none is) (judged texts are)

  pub not_accepted : Says (AnswersVerdict t claims) page outcome → outcome ≢ WasDone → (texts : List (List ℕ))
      → Says (λ answer. AnswersAccepted t (Is texts) answer (verdict_of t claims)) page outcome
  not_accepted (answer, (is, certified), same, ends) other texts = by (verdict_of t claims) is where
    by : (v : Option CheckFault) → answer ≡ answer_verdict t v → Says (λ answer. AnswersAccepted t (Is texts) answer v) page outcome
    by None at = absurd (other (ends ∙ ap (λ (a : Answer). a.outcome) at))
    by (Some fault) at = (answer, at, same, ends)

pub accepted_order : (t : TableRows) (claims : NamedRows) (page : List ℕ) (outcome : Outcome) (GoesOn : List (List ℕ) → Type 0) (states : List SourceState) (Kept : ℕ → Type 0)
    → Says (AnswersVerdict t claims) page outcome → outcome ≡ WasDone → OnlyAfter GoesOn states Kept → OnlyAfter (λ texts. Certifies t (Ok claims) × GoesOn texts) states Kept
accepted_order t claims page outcome GoesOn states Kept says done order first are = by (order first are) where
  by : GoesOn first ⊎ Kept (length first) → (Certifies t (Ok claims) × GoesOn first) ⊎ Kept (length first)
  by (inl goes) = inl ((accepted_none t claims page outcome says done).1, goes)
  by (inr kept) = inr kept
