-- What `observe` answers.
use Rattle.std.proofs.Common.{◌≡◌, ℕ, List, [], ◌∷◌, ◌++◌, ◌∙◌, refl, sym, ap, subst, Option, Some, None, IfOk, IfSome, Result, Ok, Err}
use Rattle.std.specs.Prelude.{◌+◌, length}
use Rattle.dc_answer.specs.Answer.{Answer}
use Rattle.dc_answer.specs.Judging.{Keeps, Says}
use Rattle.dc_answer.specs.declared.exit.Outcome.{Outcome}
use Rattle.dc_answer.specs.declared.exit.Outcome.TheVariants.{Done}
use Rattle.dc_cert.specs.Bounds.{CertificateRows}
use Rattle.dc_event.specs.TraceText.{Trace, trace_of}
use Rattle.dc_event.specs.declared.trace.TraceFault.{TraceFault}
use Rattle.dc_observe.specs.Near.{IsNearness}
use Rattle.dc_event.specs.declared.event.Event.{Event}
use Rattle.dc_run.specs.Refusals.{trace_end}
use Rattle.dc_run.specs.declared.limits.TheConstants.{LONG_TRACE_LIMIT}
use Rattle.dc_run_observe.specs.Answer.{IsFollowed, answer_by_fault, answer_trace, observed_answer}
use Rattle.dc_run_observe.specs.Lines.{observed_lines}
use Rattle.dc_run_observe.specs.declared.followed.Followed.{Followed}
use Rattle.dc_run_survey.specs.Lines.{parted}
use Rattle.dc_run_survey.proofs.Parting.{parted-spelled}
use Rattle.dc_tables.specs.TableRows.{TableRows}

module _ (t : TableRows) (c : CertificateRows) (r : Followed) where
  fault_is : (trace : Trace) (fault : Option TraceFault) → IsFollowed t trace r → r.fault ≡ fault → observed_answer t c trace ≡ answer_by_fault t c trace fault
  fault_is trace fault is at = ap (answer_by_fault t c trace) (sym is.fault ∙ at)

  -- a fault alone was told
  pub fault_said : (page : List ℕ) (outcome : Outcome) (fault : TraceFault) (from : Option (List ℕ)) → r.fault ≡ Some fault → Says (λ answer. answer ≡ trace_end (Some fault)) page outcome
      → IfSome from (λ text. IsFollowed t (trace_of t LONG_TRACE_LIMIT text) r) → IfSome from (λ text. Says (λ answer. answer ≡ answer_trace t c text) page outcome)
  fault_said page outcome fault None at says is = tt
  fault_said page outcome fault (Some text) at (answer, told, same, ends) is = (answer, told ∙ sym (fault_is (trace_of t LONG_TRACE_LIMIT text) (Some fault) is at), same, ends)

  -- the lines of the run were told
  pub lines_said : (page : List ℕ) (from : Option (List ℕ)) → r.fault ≡ None → ((run : List Event) → IsNearness t r.near run → page ≡ parted (observed_lines t c run))
      → IfSome from (λ text. IsFollowed t (trace_of t LONG_TRACE_LIMIT text) r) → IfSome from (λ text. Says (λ answer. answer ≡ answer_trace t c text) page Done)
  lines_said page None at told is = tt
  lines_said page (Some text) at told is =
      let run : List Event = (trace_of t LONG_TRACE_LIMIT text).events in (
        answer_by_fault t c (trace_of t LONG_TRACE_LIMIT text) None,
        sym (fault_is (trace_of t LONG_TRACE_LIMIT text) None is at),
        ap (λ l. l ++ 10 ∷ []) (told (trace_of t LONG_TRACE_LIMIT text).events is.near) ∙ parted-spelled (observed_lines t c (trace_of t LONG_TRACE_LIMIT text).events),
        refl,
      )
