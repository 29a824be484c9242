-- What `audit` answers.
use Rattle.std.proofs.Common.{◌≡◌, ℕ, Bool, List, [], ◌∷◌, ◌∙◌, ap, Some, IfSome, Ok, Err}
use Rattle.dc_device.specs.States.{SourceState}
use Rattle.dc_event.specs.declared.trace.TraceFault.{TraceFault}
use Rattle.dc_tables.specs.TableRows.{TableRows}
use Rattle.dc_answer.specs.Given.{AreTexts}
use Rattle.dc_answer.specs.Judging.{Says}
use Rattle.dc_answer.specs.declared.exit.Outcome.{Outcome}
use Rattle.dc_answer.specs.declared.inputs.Unloaded.TheVariants.{Refused}
use Rattle.dc_run.specs.Refusals.{trace_end}
use Rattle.dc_run_audit.specs.Audit.{AnswersTrace, Finds, answer_findings}
use Rattle.dc_run_audit.specs.Recorded.{run_of}
use Rattle.dc_run_audit.specs.declared.findings.Findings.{Findings}

-- ---- the run of a trace

module _ (long : Bool) (t : TableRows) (ages : List ℕ) (s : SourceState) (ss : List SourceState) (page : List ℕ) (outcome : Outcome) where
  -- what was found was kept
  pub trace_found : (f : Findings) → IfSome s.remaining (λ text. Finds t ages (run_of long t text) (Ok f)) → Says (λ answer. answer ≡ answer_findings f) page outcome
      → (texts : List (List ℕ)) → AreTexts (s ∷ ss) texts → Says (AnswersTrace long t ages texts) page outcome
  trace_found f finds says [] are = absurd are
  trace_found f finds (answer, is, same, ends) (text ∷ texts) (e, are) =
      let (run, reported, found) = rw e at finds in
      (answer, rw reported (f, found, is), same, ends)

  -- its fault was kept
  pub trace_refused : (fault told : TraceFault) → IfSome s.remaining (λ text. Finds t ages (run_of long t text) (Err (Refused fault))) → told ≡ fault → Says (λ answer. answer ≡ trace_end (Some told)) page outcome
      → (texts : List (List ℕ)) → AreTexts (s ∷ ss) texts → Says (AnswersTrace long t ages texts) page outcome
  trace_refused fault told finds at says [] are = absurd are
  trace_refused fault told finds at (answer, is, same, ends) (text ∷ texts) (e, are) =
      let reported = rw e at finds in
      (answer, rw reported (is ∙ ap (λ f. trace_end (Some f)) at), same, ends)
