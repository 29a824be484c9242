-- What several workers say of tables that they share.
use Rattle.std.proofs.Common.{◌≡◌, ◌↔◌, ℕ, List, refl, subst, Option, Some, None}
use Rattle.dc_cert.specs.NamedRows.{NamedRows}
use Rattle.dc_check.specs.Accepts.{Accepts}
use Rattle.dc_check.specs.Certified.{KeepsItsClaims}
use Rattle.dc_check.specs.Placed.{IsPlaced}
use Rattle.dc_check.specs.Verdict.{verdict_of}
use Rattle.dc_check.specs.declared.fault.CheckFault.{CheckFault}
use Rattle.dc_print.specs.Verdicts.{accepted_text, refused_text}
use Rattle.dc_tables.specs.TableRows.{TableRows}
use Rattle.dc_answer.specs.Judging.{Says}
use Rattle.dc_answer.specs.declared.exit.Outcome.{Outcome}
use Rattle.dc_answer.specs.declared.exit.Outcome.TheVariants.{Done as WasDone, Refused as WasRefused}
use Rattle.dc_answer.specs.lemmas.Judgments.{one_said}
use Rattle.dc_run.specs.Check.{AnswersVerdict}

accepted : (t : TableRows) (claims : NamedRows) (line : List ℕ) → KeepsItsClaims t claims → Accepts t claims → verdict_of t claims ≡ None → line ≡ accepted_text t
    → Says (AnswersVerdict t claims) line WasDone
accepted t claims line kept ok none is =
    one_said (AnswersVerdict t claims) line (accepted_text t) WasDone is (rw none refl, (λ e. record { claims = claims; read = refl; accepted = ok; kept = kept }))

refused : (t : TableRows) (claims : NamedRows) (line : List ℕ) (fault : CheckFault) → verdict_of t claims ≡ Some fault → line ≡ refused_text t fault
    → Says (AnswersVerdict t claims) line WasRefused
refused t claims line fault some is = one_said (AnswersVerdict t claims) line (refused_text t fault) WasRefused is (rw some refl, (λ e. absurd (cc)))

module _ (t shared : TableRows) (claims : NamedRows) (line : List ℕ) where
  pub shared_accepted : (lawful printed : TableRows) → shared ≡ t → lawful ≡ t → printed ≡ t → KeepsItsClaims shared claims → ((c : NamedRows) → (verdict_of lawful c ≡ None) ↔ Accepts lawful c)
      → verdict_of shared claims ≡ None → line ≡ accepted_text printed → Says (AnswersVerdict t claims) line WasDone
  shared_accepted lawful printed same law_same print_same kept law none is =
      let here = subst (λ u. verdict_of u claims ≡ None) same none in
      let laws = subst (λ u. (c : NamedRows) → (verdict_of u c ≡ None) ↔ Accepts u c) law_same law in
      accepted t claims line (subst (λ u. KeepsItsClaims u claims) same kept) ((laws claims).0 here) here (subst (λ u. line ≡ accepted_text u) print_same is)

  pub shared_refused : (printed : TableRows) (fault given : CheckFault) → shared ≡ t → printed ≡ t → given ≡ fault → (verdict_of shared claims ≡ Some fault) × IsPlaced shared fault
      → line ≡ refused_text printed given → Says (AnswersVerdict t claims) line WasRefused
  shared_refused printed fault given same print_same at some is =
      refused t claims line fault (subst (λ u. verdict_of u claims ≡ Some fault) same some.0)
      (subst (λ u. line ≡ refused_text u fault) print_same (subst (λ f. line ≡ refused_text printed f) at is))
