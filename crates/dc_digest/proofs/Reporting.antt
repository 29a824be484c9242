-- What `check --digest` reports from what the frame does.
use Rattle.std.proofs.Common.{◌≡◌, ◌≢◌, ◌⊎◌, ℕ, ◌+◌, List, [], ◌∷◌, refl, sym, ◌∙◌, ap, subst, arith, Option, Ok, Err, inl, inr}
use Rattle.sha2.specs.Sha256.{sha256}
use Rattle.dc_answer.specs.Answer.{Answer, Any, Reported, WholeOrNone}
use Rattle.dc_answer.specs.Exits.{exit_with, is_answered}
use Rattle.dc_answer.specs.Inputs.{AnswersClaims}
use Rattle.dc_answer.specs.Threads.{ReportsThreads}
use Rattle.dc_answer.specs.declared.exit.Exit.{Exit}
use Rattle.dc_answer.specs.declared.exit.Exit.TheVariants.{Done, Failed}
use Rattle.dc_answer.specs.declared.exit.Outcome.{Outcome}
use Rattle.dc_answer.specs.declared.exit.Outcome.TheVariants.{Done as WasDone, Refused as WasRefused, Unreadable as WasUnreadable}
use Rattle.dc_answer.specs.lemmas.Plain.{of_two, reported_as, threads_two, whole_as}
use Rattle.dc_cert.specs.NamedRows.{NamedRows, named_rows}
use Rattle.dc_cert.specs.Reading.{Reading, certificate_of}
use Rattle.dc_document.specs.declared.fault.BuildError.TheVariants.{Refused, Memory as NoMemory}
use Rattle.dc_run.specs.Check.{AnswersVerdict, AreCertified, Certifies, answer_claims}
use Rattle.dc_tables.specs.TableRows.{TableRows}
use Rattle.dc_digest.specs.Behind.{AnswersBehind, AnswersDigested, behind}
use Rattle.dc_digest.specs.lemmas.Behind.{behind_outcome}
use Rattle.dc_digest.specs.Digests.{AnswersDigests, ReportsDigests}

-- the words of the frame for this engine
abbrev pub DigestFrame : List ℕ → List ℕ → Answer → Type 0
DigestFrame rows text = AnswersDigested (λ k. AnswersBehind k.1 (λ c texts answer. AnswersVerdict k.0 (named_rows c) answer)) (rows ∷ text ∷ [])

unread_not_done : (answer : Answer) → answer.outcome ≡ WasUnreadable → answer.outcome ≡ WasDone → ⊥
unread_not_done answer is at = let no : WasUnreadable ≡ WasDone = sym is ∙ at in cc

claims_as : (t : TableRows) (reading : Reading NamedRows) (answer : Answer) → AnswersClaims (λ c texts a. AnswersVerdict t (named_rows c) a) [] answer reading
    → (answer ≡ answer_claims t reading) × (answer.outcome ≡ WasDone → Certifies t reading)
claims_as t (Ok claims) answer (c, same, is) = subst (λ n. (answer ≡ answer_claims t (Ok n)) × (answer.outcome ≡ WasDone → Certifies t (Ok n))) same is
claims_as t (Err fault) answer is = (is, λ e. absurd (unread_not_done answer (ap (λ (a : Answer). a.outcome) is) e))

digest_as : (rows text : List ℕ) (answer : Answer) → DigestFrame rows text answer → AnswersDigests rows text answer × (answer.outcome ≡ WasDone → AreCertified rows text)
digest_as rows text answer (Ok t, tells, (plain, answers, is)) =
    let h = claims_as t (certificate_of text) plain answers in
    let kept = behind_outcome (sha256 rows) text plain in
    ((Ok t, tells, is ∙ ap (behind (sha256 rows) text) h.0), (λ e. record { rows = t; read = tells; certified = h.1 (sym kept ∙ (sym (ap (λ (a : Answer). a.outcome) is) ∙ e)) }))
digest_as rows text answer (Err (Refused fault), tells, is) =
    ((Err (Refused fault), tells, is), (λ e. absurd (unread_not_done answer (ap (λ (a : Answer). a.outcome) is) e)))
digest_as rows text answer (Err (NoMemory e), tells, is) = absurd is

outcome_done : (o : Outcome) → exit_with o ≡ Done → o ≡ WasDone
outcome_done WasDone e = refl
outcome_done WasRefused e = absurd (cc)
outcome_done WasUnreadable e = absurd (cc)

done_not_failed : Done ≢ Failed
done_not_failed e = cc

digest_reports : (rows text : List ℕ) (old new : Option (List ℕ)) (a a' b b' k k' : ℕ) (exit : Exit)
    → Reported (WholeOrNone (DigestFrame rows text) (is_answered exit)) old new (a + (b + 0)) (a' + (b' + 0)) k k' exit → ReportsDigests rows text old new (a + b) (a' + b') k k' exit
digest_reports rows text old new a a' b b' k k' exit r = record {
  reported =
      reported_as (WholeOrNone (DigestFrame rows text) (is_answered exit)) (WholeOrNone (AnswersDigests rows text) (is_answered exit)) old new (a + b) (a' + b') k k' exit
      (whole_as (DigestFrame rows text) (AnswersDigests rows text) (is_answered exit) (λ answer is. (digest_as rows text answer is).0))
      (of_two (WholeOrNone (DigestFrame rows text) (is_answered exit)) old new k k' exit a a' b b' r);
  certified = λ e.
      let is : DigestFrame rows text r.answer = subst (λ x. WholeOrNone (DigestFrame rows text) (is_answered x) r.answer) e r.is in
      let ends : exit ≡ exit_with r.answer.outcome = (r.reports.done (subst (λ x. x ≢ Failed) (sym e) done_not_failed)).1 in
      (digest_as rows text r.answer is).1 (outcome_done r.answer.outcome (sym ends ∙ e));
}

-- of both sources how often each had failed before the call (`a`, `b`) and has failed after it, as the frame has it (`a'`, `b'`) and as
-- the caller does (`p`, `q`)

module _ (old new : Option (List ℕ)) (a a' b b' p q k k' : ℕ) (exit : Exit) (first : p ≡ a') (second : q ≡ b') where
  both : a' + b' ≡ p + q
  both = omega (arith, first, second)

  pub digest_told : (rows text : List ℕ) → Reported (WholeOrNone (DigestFrame rows text) (is_answered exit)) old new (a + (b + 0)) (a' + (b' + 0)) k k' exit
      → ReportsDigests rows text old new (a + b) (p + q) k k' exit
  digest_told rows text r = subst (λ n. ReportsDigests rows text old new (a + b) n k k' exit) both (digest_reports rows text old new a a' b b' k k' exit r)

  pub any_told : Reported Any old new (a + (b + 0)) (a' + (b' + 0)) k k' exit → Reported Any old new (a + b) (p + q) k k' exit
  any_told r = subst (λ n. Reported Any old new (a + b) n k k' exit) both (of_two Any old new k k' exit a a' b b' r)

  -- by several workers, where a thread may have been missing
  threads_told : Unit {0} × ReportsThreads old new (a + (b + 0)) (a' + (b' + 0)) k k' exit → ReportsThreads old new (a + b) (p + q) k k' exit
  threads_told h = subst (λ n. ReportsThreads old new (a + b) n k k' exit) both (threads_two old new k k' exit a a' b b' h.1)

  pub digest_or : (rows text : List ℕ)
      → Reported (WholeOrNone (DigestFrame rows text) (is_answered exit)) old new (a + (b + 0)) (a' + (b' + 0)) k k' exit ⊎ (Unit {0} × ReportsThreads old new (a + (b + 0)) (a' + (b' + 0)) k k' exit)
      → ReportsDigests rows text old new (a + b) (p + q) k k' exit ⊎ ReportsThreads old new (a + b) (p + q) k k' exit
  digest_or rows text (inl r) = inl (digest_told rows text r)
  digest_or rows text (inr h) = inr (threads_told h)

  pub any_or_threads : Reported Any old new (a + (b + 0)) (a' + (b' + 0)) k k' exit ⊎ (Unit {0} × ReportsThreads old new (a + (b + 0)) (a' + (b' + 0)) k k' exit)
      → Reported Any old new (a + b) (p + q) k k' exit ⊎ ReportsThreads old new (a + b) (p + q) k k' exit
  any_or_threads (inl r) = inl (any_told r)
  any_or_threads (inr h) = inr (threads_told h)

pub quiet_both : (a a' b b' p q k k' : ℕ) → p ≡ a' → q ≡ b' → a' + (b' + 0) + k' ≡ a + (b + 0) + k → p + q + k' ≡ a + b + k
quiet_both a a' b b' p q k k' first second h = omega (arith, first, second, h)
