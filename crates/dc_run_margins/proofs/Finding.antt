-- What `margins` answers without a certificate, exit by exit.
use Rattle.std.proofs.Common.{None, ◌≡◌, ℕ, ◌++◌, List, [], ◌∷◌, refl, ap, subst, sym, ◌∙◌, Result, inl, inr}
use Rattle.dc_answer.specs.Answer.{one_line}
use Rattle.dc_answer.specs.Judging.{Keeps, Says}
use Rattle.dc_answer.specs.declared.exit.Outcome.{Outcome}
use Rattle.dc_answer.specs.declared.exit.Outcome.TheVariants.{Refused as WasRefused}
use Rattle.dc_answer.specs.lemmas.Judgments.{kept_as}
use Rattle.dc_run.specs.Find.{obstacle_text}
use Rattle.dc_cert.specs.Bounds.{numbers_of}
use Rattle.dc_cert.specs.NamedRows.{NamedRows}
use Rattle.dc_check.specs.lemmas.Exact.{verdict-accepts}
use Rattle.dc_find.specs.Least.{IsLeastAccepted, NoneAccepted}
use Rattle.dc_find.specs.Found.{IsFound}
use Rattle.dc_find.specs.Reached.{IsReached, jobs_reached}
use Rattle.dc_find.specs.Ways.{IsFirstInTheWay}
use Rattle.dc_find.specs.declared.fault.FindFault.{FindFault}
use Rattle.dc_build.specs.Written.{WrittenRows}
use Rattle.dc_tables.specs.TableRows.{TableRows}
use Rattle.dc_run_margins.proofs.Feeding.{fed-both, fed-spelled}
use Rattle.dc_run_margins.specs.Drift.{lines_of_drift}
use Rattle.dc_run_margins.specs.Telling.{told_as}
use Rattle.dc_run_margins.specs.declared.telling.LineKey.TheVariants.{Verdict}
use Rattle.dc_run_margins.specs.declared.telling.Telling.{Telling}
use Rattle.dc_run_margins.specs.Margins.{Answers, AnswersReached, AnswersRows, answer_margins, fed, lines_reached}

module _ (told : Telling) (w : WrittenRows) where
  -- the least certificate was judged
  pub found_judged : {E : Type 0} (claims : NamedRows) (text : List ℕ) (result : Result Outcome E) → IsLeastAccepted w.tables claims → Answers (answer_margins told w claims) text result
      → Keeps (AnswersRows told w) text result
  found_judged claims text result least judged =
      kept_as (λ answer. answer ≡ answer_margins told w claims) (AnswersRows told w) text result
      (λ answer is. inl (record { claims = claims; least = least; accepted = (verdict-accepts w.tables claims).1 least.accepted; is = is })) judged

  -- none is accepted: the line, those of the margins of what was reached and of what is behind, and those of a drift
  abbrev pub JudgedObstacle : TableRows → Type 0
  JudgedObstacle t = (fault : FindFault) (claims : NamedRows) (jobs : ℕ) (old mid text : List ℕ) (outcome : Outcome) → NoneAccepted w.tables → IsFirstInTheWay w.tables fault
      → jobs ≡ jobs_reached t fault → IsReached t jobs claims → IsFound t claims → old ≡ told_as told.json Verdict (obstacle_text t fault)
      → mid ≡ old ++ fed (lines_reached told jobs t (numbers_of claims)) → text ≡ mid ++ fed (lines_of_drift told.json w told.drift None) → outcome ≡ WasRefused
      → Says (AnswersReached told w) text outcome

  obstacle_judged : JudgedObstacle w.tables
  obstacle_judged fault claims jobs old mid text outcome none first count reached found line lines more is =
      let plain = obstacle_text w.tables fault in
      let first_line = told_as told.json Verdict plain in
      let behind : ℕ → List (List ℕ) = λ n. lines_reached told n w.tables (numbers_of claims) ++ lines_of_drift told.json w told.drift None in (
        record { lines = first_line ∷ behind (jobs_reached w.tables fault); outcome = WasRefused },
        record {
          line = one_line plain WasRefused;
          obstacle = record { fault = fault; none = none; first = first; said = refl };
          claims = claims;
          reached = subst (λ n. IsReached w.tables n claims) count reached;
          found = found;
          is = refl;
        },
        ap (λ l. l ++ 10 ∷ []) (fed-both old mid text (lines_reached told jobs w.tables (numbers_of claims)) (lines_of_drift told.json w told.drift None) lines more
            ∙ ap (λ l. l ++ fed (behind jobs)) line ∙ ap (λ n. first_line ++ fed (behind n)) count)
            ∙ fed-spelled first_line (behind (jobs_reached w.tables fault)),
        is,
      )

  -- of these tables
  pub obstacle_of : (t : TableRows) → t ≡ w.tables → JudgedObstacle t
  obstacle_of t same = subst JudgedObstacle (sym same) obstacle_judged

  -- the same, as one of both answers
  pub rows_judged : {E : Type 0} (text : List ℕ) (result : Result Outcome E) → Keeps (AnswersReached told w) text result → Keeps (AnswersRows told w) text result
  rows_judged text result = kept_as (AnswersReached told w) (AnswersRows told w) text result (λ answer is. inr is)
