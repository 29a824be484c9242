-- From what an engine reports to the text that it has written, and from a fault to why no certificate is accepted.
use Rattle.std.proofs.Common.{◌≡◌, ℕ, List, [], true, false, Option, Some, None, Result, Ok, Err, String, IfOk, refl, subst, sym}
use Rattle.std.specs.Result.{result_err}
use Rattle.std.specs.declared.alloc.Global.{Global}
use Rattle.dc_answer.specs.Answer.{Answer, Reported, WholeOrNone}
use Rattle.dc_answer.specs.Exits.{is_answered}
use Rattle.dc_answer.specs.declared.exit.Exit.{Exit}
use Rattle.dc_answer.specs.declared.exit.Exit.TheVariants.{Done, Refused, Unreadable, Failed}
use Rattle.dc_check.specs.declared.certified.Certified.{Certified}
use Rattle.dc_engine.specs.Opening.{Certifies}
use Rattle.dc_engine.specs.declared.fault.OpenFault.{OpenFault}
use Rattle.dc_engine.specs.declared.fault.Report.{Report}
use Rattle.dc_texts.specs.Finding.{FindsText}
use Rattle.dc_texts.specs.Margins.{IsLeastRefusal, IsLeastReportOf, IsRefusal, IsReportOf, IsTextOf}
use Rattle.dc_texts.specs.declared.fault.NotFound.{NotFound}

module _ (Is : Answer → Type 0) (text : List ℕ) (a a' k k' : ℕ) where
  -- what was written onto an empty sink by an engine that got to its end
  pub written_whole : (exit : Exit) → is_answered exit ≡ true → Reported (WholeOrNone Is (is_answered exit)) (Some []) (Some text) a a' k k' exit → IsTextOf Is text
  written_whole Done whole r = record { answer = r.answer; is = r.is; printed = (r.reports.done (λ e. cc)).0 }
  written_whole Refused whole r = record { answer = r.answer; is = r.is; printed = (r.reports.done (λ e. cc)).0 }
  written_whole Unreadable whole r = record { answer = r.answer; is = r.is; printed = (r.reports.done (λ e. cc)).0 }
  written_whole Failed whole r = absurd (cc)

  -- the same of a sink that holds nothing, and of a text that it wrote
  pub written_from : (start written : List ℕ) (exit : Exit) → start ≡ [] → text ≡ written → is_answered exit ≡ true
      → Reported (WholeOrNone Is (is_answered exit)) (Some start) (Some written) a a' k k' exit → IsTextOf Is text
  written_from start written exit empty same whole r =
      written_whole exit whole
      (subst (λ t. Reported (WholeOrNone Is (is_answered exit)) (Some []) (Some t) a a' k k' exit) (sym same)
      (subst (λ s. Reported (WholeOrNone Is (is_answered exit)) (Some s) (Some written) a a' k k' exit) empty r))

module _ {E : Type 0} where
  -- why a certificate is not accepted, by the fault of the verdict
  pub refusal_told : (tables certificate : List ℕ) (verdict : Result Certified OpenFault) (fault : Option OpenFault) (r : Result (Option Report) E) → fault ≡ result_err verdict
      → Certifies tables certificate verdict → IfOk r (λ o. IsReportOf fault o) → IfOk r (λ o. IsRefusal tables certificate o)
  refusal_told tables certificate verdict fault (Err e) same certifies told = told
  refusal_told tables certificate (Ok certified) fault (Ok report) same certifies told =
      let none : report ≡ None = subst (λ f. IsReportOf f report) same told in
      subst (λ o. IsRefusal tables certificate o) (sym none) (certified, certifies)
  refusal_told tables certificate (Err why) fault (Ok report) same certifies told =
      let some : IsReportOf (Some why) report = subst (λ f. IsReportOf f report) same told in
      subst (λ o. IsRefusal tables certificate o) (sym some.1) (why, some.0, certifies, refl)

  -- why none is accepted, by what the search answered
  pub least_told : (tables : List ℕ) (found : Result (String Global) NotFound) (fault : Option NotFound) (r : Result (Option Report) E) → fault ≡ result_err found
      → FindsText tables found → IfOk r (λ o. IsLeastReportOf fault o) → IfOk r (λ o. IsLeastRefusal tables o)
  least_told tables found fault (Err e) same finds told = told
  least_told tables (Ok text) fault (Ok report) same finds told =
      let none : report ≡ None = subst (λ f. IsLeastReportOf f report) same told in
      subst (λ o. IsLeastRefusal tables o) (sym none) (text, finds)
  least_told tables (Err why) fault (Ok report) same finds told =
      let some : IsLeastReportOf (Some why) report = subst (λ f. IsLeastReportOf f report) same told in
      subst (λ o. IsLeastRefusal tables o) (sym some.1) (why, some.0, finds, refl)
