-- What `check` answers.
use Rattle.std.proofs.Common.{◌≡◌, ◌≢◌, ℕ, ◌∙◌, ap, List, refl, Option, Some, None, Ok}
use Rattle.dc_cert.specs.NamedRows.{NamedRows}
use Rattle.dc_check.specs.Accepts.{Accepts}
use Rattle.dc_check.specs.Certified.{KeepsItsClaims}
use Rattle.dc_check.specs.Verdict.{verdict_of}
use Rattle.dc_check.specs.declared.fault.CheckFault.{CheckFault}
use Rattle.dc_tables.specs.TableRows.{TableRows}
use Rattle.dc_answer.specs.Answer.{Answer}
use Rattle.dc_answer.specs.Judging.{Says}
use Rattle.dc_answer.specs.declared.exit.Outcome.{Outcome}
use Rattle.dc_answer.specs.declared.exit.Outcome.TheVariants.{Done as WasDone, Refused as WasRefused}
use Rattle.dc_answer.specs.lemmas.Judgments.{one_said}
use Rattle.dc_run.specs.Check.{AnswersVerdict, Certifies, answer_verdict}
use Rattle.dc_print.specs.Verdicts.{accepted_text, refused_text}

module _ (t : TableRows) (claims : NamedRows) (line : List ℕ) where
  -- it is accepted, and that was printed
  pub accepted_said : KeepsItsClaims t claims → Accepts t claims → verdict_of t claims ≡ None → line ≡ accepted_text t → Says (AnswersVerdict t claims) line WasDone
  accepted_said kept ok none is =
      one_said (AnswersVerdict t claims) line (accepted_text t) WasDone is (rw none refl, (λ e. record { claims = claims; read = refl; accepted = ok; kept = kept }))

  -- it is refused, and that was printed
  pub refused_said : (fault : CheckFault) → verdict_of t claims ≡ Some fault → line ≡ refused_text t fault → Says (AnswersVerdict t claims) line WasRefused
  refused_said fault some is = one_said (AnswersVerdict t claims) line (refused_text t fault) WasRefused is (rw some refl, (λ e. absurd (cc)))

-- only an accepted one is done
verdict_none : (t : TableRows) (v : Option CheckFault) (answer : Answer) → answer ≡ answer_verdict t v → answer.outcome ≡ WasDone → v ≡ None
verdict_none t None answer is at = refl
verdict_none t (Some fault) answer is at = let no : WasRefused ≡ WasDone = ap (λ (a : Answer). a.outcome) (let e : answer_verdict t (Some fault) ≡ answer = cc in e) ∙ at in absurd (cc)

pub accepted_none : (t : TableRows) (claims : NamedRows) (line : List ℕ) (outcome : Outcome) → Says (AnswersVerdict t claims) line outcome → outcome ≡ WasDone
    → (verdict_of t claims ≡ None) × Certifies t (Ok claims)
accepted_none t claims line outcome (answer, (is, certified), text, ends) done =
    let at : answer.outcome ≡ WasDone = (let e : answer.outcome ≡ outcome = cc in e) ∙ done in (verdict_none t (verdict_of t claims) answer is at, certified at)
