-- What is said of an engine's answer, of the answer that it is told as.
use Rattle.std.proofs.Common.{◌≡◌, ℕ, ◌++◌, List, [], ◌∷◌, refl, sym, ◌∙◌, ap, subst, codes, Bool, IfErr, Result, Ok, Err}
use Rattle.std.proofs.lemmas.List.{append_cancel_right}
use Rattle.dc_answer.specs.Answer.{Answer, one_line, unreadable}
use Rattle.dc_answer.specs.Judging.{Keeps, Raised}
use Rattle.dc_answer.specs.declared.exit.Outcome.{Outcome}
use Rattle.dc_answer.specs.declared.exit.Outcome.TheVariants.{Done, Refused, Unreadable}
use Rattle.dc_answer.specs.declared.judge.Unjudged.{Unjudged}
use Rattle.dc_answer.specs.declared.judge.Unjudged.TheVariants.{Memory, Threads}
use Rattle.dc_device.specs.Lines.{spelled}
use Rattle.dc_run_margins.specs.Telling.{AnswersTold, IsToldAs, TellsJudged, told_as, unreadable_told}
use Rattle.dc_run_margins.specs.declared.telling.LineKey.TheVariants.{Line}

-- ---- what was judged

module _ (json : Bool) (Is : Answer → Type 0) (old new : List ℕ) where
  pub told_kept : (judged result : Result Outcome Unjudged) → Keeps Is old judged → TellsJudged json old judged new result → Keeps (AnswersTold json Is) new result
  told_kept (Ok Done) result (plain, is, same, ends) (kept, went) =
      rw (kept, went) (plain, (plain, is, subst (IsToldAs json plain plain) ends refl), same, ends)
  told_kept (Ok Refused) result (plain, is, same, ends) (kept, went) =
      rw (kept, went) (plain, (plain, is, subst (IsToldAs json plain plain) ends refl), same, ends)
  told_kept (Ok Unreadable) (Ok outcome) (plain, is, same, ends) (kept, went) =
      let answer : Answer = one_line (told_as json Line old) Unreadable in
      (answer, (plain, is, subst (IsToldAs json plain answer) ends (old, same, refl)), ap (λ l. l ++ 10 ∷ []) kept, went)
  told_kept (Ok Unreadable) (Err e) keeps tells = tt
  told_kept (Err e) result keeps tells = rw tells tt

  pub told_raised : (a a' : ℕ) (judged result : Result Outcome Unjudged) → Raised a a' judged → TellsJudged json old judged new result → Raised a a' result
  told_raised a a' (Ok Done) result raised (kept, went) = rw went raised
  told_raised a a' (Ok Refused) result raised (kept, went) = rw went raised
  told_raised a a' (Ok Unreadable) (Ok outcome) raised tells = raised
  told_raised a a' (Ok Unreadable) (Err e) raised tells = rw tells raised
  told_raised a a' (Err e) result raised tells = rw tells raised

  pub told_threads : (Starts : Type 0) (judged result : Result Outcome Unjudged) → IfErr judged (λ e. e ≡ Threads → Starts) → TellsJudged json old judged new result → IfErr result (λ e. e ≡ Threads → Starts)
  told_threads Starts (Ok Done) result starts (kept, went) = rw went tt
  told_threads Starts (Ok Refused) result starts (kept, went) = rw went tt
  told_threads Starts (Ok Unreadable) (Ok outcome) starts tells = tt
  told_threads Starts (Ok Unreadable) (Err e) starts tells = λ is. let no : Memory ≡ Threads = sym tells ∙ is in absurd (cc)
  told_threads Starts (Err e) result starts tells = rw tells starts

-- ---- the plain answer

module _ (json : Bool) (plain answer : Answer) where
  -- where it is a verdict, it is told as it is
  pub done_as : plain.outcome ≡ Done → IsToldAs json plain answer plain.outcome → answer ≡ plain
  done_as ends told = subst (IsToldAs json plain answer) ends told

  pub refused_as : plain.outcome ≡ Refused → IsToldAs json plain answer plain.outcome → answer ≡ plain
  refused_as ends told = subst (IsToldAs json plain answer) ends told

  -- where it is of a text that can't be read, its line stands under its key
  pub unreadable_as : (fault : List ℕ) → plain ≡ unreadable fault → IsToldAs json plain answer plain.outcome → answer ≡ unreadable_told json fault
  unreadable_as fault is told = by (subst (IsToldAs json plain answer) (ap (λ a. a.outcome) is) told) where
    by : IsToldAs json plain answer Unreadable → answer ≡ unreadable_told json fault
    by (line, same, said) =
        said
        ∙ ap (λ l. one_line (told_as json Line l) Unreadable) (append_cancel_right line (codes "unreadable " ++ fault) (10 ∷ []) (same ∙ ap (λ a. spelled a.lines) is))
