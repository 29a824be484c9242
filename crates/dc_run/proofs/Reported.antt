-- The contracts of before, from what the frame reports.
use Rattle.std.proofs.Common.{◌≡◌, ◌≢◌, ◌⊎◌, ℕ, ◌+◌, List, [], ◌∷◌, refl, sym, ◌∙◌, ap, subst, Option, Ok, Err, inl, inr}
use Rattle.dc_cert.specs.NamedRows.{NamedRows, named_rows}
use Rattle.dc_cert.specs.Reading.{Reading, certificate_of}
use Rattle.dc_document.specs.declared.fault.BuildError.TheVariants.{Refused, Memory as NoMemory}
use Rattle.dc_tables.specs.TableRows.{TableRows}
use Rattle.dc_answer.specs.Answer.{Answer, Reported, WholeOrNone}
use Rattle.dc_answer.specs.Exits.{exit_with, is_answered}
use Rattle.dc_answer.specs.Inputs.{AnswersCertificate, AnswersClaims, AnswersTables}
use Rattle.dc_answer.specs.Threads.{ReportsThreads}
use Rattle.dc_answer.specs.declared.exit.Exit.{Exit}
use Rattle.dc_answer.specs.declared.exit.Exit.TheVariants.{Done, Failed}
use Rattle.dc_answer.specs.declared.exit.Outcome.{Outcome}
use Rattle.dc_answer.specs.declared.exit.Outcome.TheVariants.{Done as WasDone, Refused as WasRefused, Unreadable as WasUnreadable}
use Rattle.dc_answer.specs.lemmas.Plain.{of_one, of_two, reported_as, threads_two, whole_as}
use Rattle.dc_run.specs.Check.{AnswersCheck, AnswersVerdict, AreCertified, Certifies, ReportsCheck, answer_claims}
use Rattle.dc_run.specs.Find.{AnswersFind, AnswersRows, ReportsFind}

-- ---- the words of the frame for these engines

abbrev pub FindFrame : List ℕ → Answer → Type 0
FindFrame rows = AnswersTables (λ t texts answer. AnswersRows t answer) (rows ∷ [])

abbrev pub CheckFrame : List ℕ → List ℕ → Answer → Type 0
CheckFrame rows text = AnswersTables (λ t. AnswersCertificate (λ c texts answer. AnswersVerdict t (named_rows c) answer)) (rows ∷ text ∷ [])

-- ---- find

find_as : (rows : List ℕ) (answer : Answer) → FindFrame rows answer → AnswersFind rows answer
find_as rows answer (Ok t, tells, is) = (Ok t, tells, is)
find_as rows answer (Err (Refused fault), tells, is) = (Err (Refused fault), tells, is)
find_as rows answer (Err (NoMemory e), tells, is) = absurd is

pub find_reports : (rows : List ℕ) (old new : Option (List ℕ)) (a a' k k' : ℕ) (exit : Exit) → Reported (WholeOrNone (FindFrame rows) (is_answered exit)) old new (a + 0) (a' + 0) k k' exit
    → ReportsFind rows old new a a' k k' exit
find_reports rows old new a a' k k' exit r =
    reported_as (WholeOrNone (FindFrame rows) (is_answered exit)) (WholeOrNone (AnswersFind rows) (is_answered exit)) old new a a' k k' exit
    (whole_as (FindFrame rows) (AnswersFind rows) (is_answered exit) (find_as rows)) (of_one (WholeOrNone (FindFrame rows) (is_answered exit)) old new k k' exit a a' r)

-- ---- check

unread_not_done : (answer : Answer) → answer.outcome ≡ WasUnreadable → answer.outcome ≡ WasDone → ⊥
unread_not_done answer is at = let no : WasUnreadable ≡ WasDone = sym is ∙ at in cc

claims_as : (t : TableRows) (reading : Reading NamedRows) (answer : Answer) → AnswersClaims (λ c texts a. AnswersVerdict t (named_rows c) a) [] answer reading
    → (answer ≡ answer_claims t reading) × (answer.outcome ≡ WasDone → Certifies t reading)
claims_as t (Ok claims) answer (c, same, is) = subst (λ n. (answer ≡ answer_claims t (Ok n)) × (answer.outcome ≡ WasDone → Certifies t (Ok n))) same is
claims_as t (Err fault) answer is = (is, λ e. absurd (unread_not_done answer (ap (λ (a : Answer). a.outcome) is) e))

check_as : (rows text : List ℕ) (answer : Answer) → CheckFrame rows text answer → AnswersCheck rows text answer × (answer.outcome ≡ WasDone → AreCertified rows text)
check_as rows text answer (Ok t, tells, is) =
    let h = claims_as t (certificate_of text) answer is in ((Ok t, tells, h.0), (λ e. record { rows = t; read = tells; certified = h.1 e }))
check_as rows text answer (Err (Refused fault), tells, is) =
    ((Err (Refused fault), tells, is), (λ e. absurd (unread_not_done answer (ap (λ (a : Answer). a.outcome) is) e)))
check_as rows text answer (Err (NoMemory e), tells, is) = absurd is

outcome_done : (o : Outcome) → exit_with o ≡ Done → o ≡ WasDone
outcome_done WasDone e = refl
outcome_done WasRefused e = absurd (cc)
outcome_done WasUnreadable e = absurd (cc)

done_not_failed : Done ≢ Failed
done_not_failed e = cc

pub check_reports : (rows text : List ℕ) (old new : Option (List ℕ)) (a a' b b' k k' : ℕ) (exit : Exit)
    → Reported (WholeOrNone (CheckFrame rows text) (is_answered exit)) old new (a + (b + 0)) (a' + (b' + 0)) k k' exit → ReportsCheck rows text old new (a + b) (a' + b') k k' exit
check_reports rows text old new a a' b b' k k' exit r = record {
  reported =
      reported_as (WholeOrNone (CheckFrame rows text) (is_answered exit)) (WholeOrNone (AnswersCheck rows text) (is_answered exit)) old new (a + b) (a' + b') k k' exit
      (whole_as (CheckFrame rows text) (AnswersCheck rows text) (is_answered exit) (λ answer is. (check_as rows text answer is).0))
      (of_two (WholeOrNone (CheckFrame rows text) (is_answered exit)) old new k k' exit a a' b b' r);
  certified = λ e.
      let is : CheckFrame rows text r.answer = subst (λ x. WholeOrNone (CheckFrame rows text) (is_answered x) r.answer) e r.is in
      let ends : exit ≡ exit_with r.answer.outcome = (r.reports.done (subst (λ x. x ≢ Failed) (sym e) done_not_failed)).1 in
      (check_as rows text r.answer is).1 (outcome_done r.answer.outcome (sym ends ∙ e));
}

-- what is checked by several workers, or that a thread could not be started
pub check_reports_or : (rows text : List ℕ) (old new : Option (List ℕ)) (a a' b b' k k' : ℕ) (exit : Exit)
    → Reported (WholeOrNone (CheckFrame rows text) (is_answered exit)) old new (a + (b + 0)) (a' + (b' + 0)) k k' exit ⊎ (Unit {0} × ReportsThreads old new (a + (b + 0)) (a' + (b' + 0)) k k' exit)
    → ReportsCheck rows text old new (a + b) (a' + b') k k' exit ⊎ ReportsThreads old new (a + b) (a' + b') k k' exit
check_reports_or rows text old new a a' b b' k k' exit (inl r) = inl (check_reports rows text old new a a' b b' k k' exit r)
check_reports_or rows text old new a a' b b' k k' exit (inr h) = inr (threads_two old new k k' exit a a' b b' h.1)
