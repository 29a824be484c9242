-- What `report` answers to what was observed, and what it reports then from what the frame does.
use Rattle.std.proofs.Common.{◌≡◌, ◌≢◌, ◌⊎◌, ℕ, ◌+◌, ◌<◌, ◌≤◌, List, [], ◌∷◌, length, refl, ap, sym, ◌∙◌, subst, add-zero, arith, true, nat_le, Option, Some, None, IfSome, Result, Ok, Err, inl, inr}
use Rattle.std.proofs.lemmas.Bool.Decides.{nat_tests}
use Rattle.dc_cert.specs.Bounds.{CertificateRows, numbers_of}
use Rattle.dc_cert.specs.NamedRows.{NamedRows, named_rows}
use Rattle.dc_cert.specs.Reading.{Reading as CertificateReading, certificate_of}
use Rattle.dc_cert.specs.declared.certificate.Certificate.{Certificate}
use Rattle.dc_check.specs.Verdict.{verdict_of}
use Rattle.dc_device.specs.States.{SourceState}
use Rattle.dc_document.specs.declared.fault.BuildError.TheVariants.{Refused as RefusedTables, Memory as NoTables}
use Rattle.dc_document.specs.declared.limits.TheConstants.{TEXT_LIMIT}
use Rattle.dc_build.specs.Reported.{AreWrittenBy}
use Rattle.dc_build.specs.Written.{WrittenRows}
use Rattle.dc_tables.specs.TableRows.{TableRows}
use Rattle.dc_toml.specs.Reading.{tables_of}
use Rattle.dc_seen.specs.Reading.{seen_rows}
use Rattle.dc_seen.specs.Said.{SeenRows, seen_of}
use Rattle.dc_seen.specs.declared.fault.SeenFault.{SeenFault}
use Rattle.dc_seen.specs.declared.seen.Seen.{Seen}
use Rattle.dc_answer.specs.Answer.{Answer, Any, Reported, WholeOrNone}
use Rattle.dc_answer.specs.Exits.{is_answered}
use Rattle.dc_answer.specs.Given.{AreTexts}
use Rattle.dc_answer.specs.Inputs.{AnswersCertificate, AnswersWritten, AnswersClaims as FrameClaims, ReadsText, failed_in}
use Rattle.dc_answer.specs.Judging.{Keeps, Raised, Says, to_write}
use Rattle.dc_answer.specs.declared.answer.Failure.{Failure}
use Rattle.dc_answer.specs.declared.exit.Exit.{Exit}
use Rattle.dc_answer.specs.declared.exit.Outcome.{Outcome}
use Rattle.dc_answer.specs.declared.inputs.Unloaded.{Unloaded}
use Rattle.dc_answer.specs.declared.inputs.Unloaded.TheVariants.{Refused, Failed}
use Rattle.dc_answer.specs.declared.judge.Unjudged.{Unjudged}
use Rattle.dc_answer.specs.lemmas.Judgments.{kept_as}
use Rattle.dc_answer.specs.lemmas.Loading.{over}
use Rattle.dc_answer.specs.lemmas.Plain.{of_three, reported_as, whole_as}
use Rattle.dc_answer.specs.lemmas.Stages.{unread_raised}
use Rattle.dc_run_report.specs.Paper.{AnswersBeside, AnswersGiven, AnswersObserved, AnswersSeen, AnswersText, IsPage, LoadsSeen, OnlyBehindBoth, ReportsObserved, observed_of, outcome_of, seen_end, too_long_text}
use Rattle.dc_run_report.proofs.Paging.{tables_alone}

-- ---- a text

under : (n m : ℕ) → n ≤ m → nat_le n m ≡ true
under n m h = grind (arith, nat_tests)

-- a text past its limit has its fault in its first line, and one within it says what its lines say
long_text : (t : TableRows) (c : CertificateRows) (text : List ℕ) → TEXT_LIMIT < length text → observed_of t c text ≡ Err too_long_text
unfolding observed_of
long_text t c text h = rw (over (length text) TEXT_LIMIT h) refl

short_text : (t : TableRows) (c : CertificateRows) (text : List ℕ) → length text ≤ TEXT_LIMIT → observed_of t c text ≡ seen_of t c text
unfolding observed_of
short_text t c text h = rw (under (length text) TEXT_LIMIT h) refl

-- it was not read
pub refused_observed : (t : TableRows) (c : CertificateRows) (r : Option (List ℕ)) (u : Unloaded SeenFault) → IfSome r (λ text. ReadsText too_long_text text (Err u)) → IfSome r (λ text. LoadsSeen (observed_of t c text) (Err u))
refused_observed t c None u h = tt
refused_observed t c (Some text) (Refused fault) (long, is) = rw is (long_text t c text long)
refused_observed t c (Some text) (Failed failure) h = tt

-- it was
pub read_observed : (t : TableRows) (c : CertificateRows) (r : Option (List ℕ)) (bytes items : List ℕ) (result : Result Seen (Unloaded SeenFault)) → bytes ≡ items → IfSome r (λ text. items ≡ text) → length items ≤ TEXT_LIMIT
    → LoadsSeen (seen_of t c bytes) result → IfSome r (λ text. LoadsSeen (observed_of t c text) result)
read_observed t c None bytes items result e h short loads = tt
read_observed t c (Some text) bytes items result e h short loads =
    let whole : LoadsSeen (seen_of t c text) result = subst (λ x. LoadsSeen (seen_of t c x) result) (e ∙ h) loads in
    subst (λ said. LoadsSeen said result) (sym (short_text t c text (subst (λ x. length x ≤ TEXT_LIMIT) h short))) whole

-- ---- what is told of it

module _ (t : TableRows) (claims : NamedRows) (page : List ℕ) where
  -- the page on it was kept
  pub page_told : (r : Option (List ℕ)) (seen : Seen) (result : Result Outcome Unjudged) → IfSome r (λ text. LoadsSeen (observed_of t (numbers_of claims) text) (Ok seen))
      → Keeps (IsPage (outcome_of (verdict_of t claims))) page result → IfSome r (λ text. Keeps (AnswersText t claims text) page result)
  page_told None seen result loads kept = tt
  page_told (Some text) seen result loads kept =
      kept_as (IsPage (outcome_of (verdict_of t claims))) (AnswersText t claims text) page result (λ answer is. subst (λ said. AnswersSeen t claims answer said) (sym loads) is) kept

  -- the line of its fault was
  pub fault_told : (r : Option (List ℕ)) (fault told : SeenFault) (outcome : Outcome) → IfSome r (λ text. LoadsSeen (observed_of t (numbers_of claims) text) (Err (Refused fault))) → told ≡ fault
      → Says (λ answer. answer ≡ seen_end told) page outcome → IfSome r (λ text. Says (AnswersText t claims text) page outcome)
  fault_told None fault told outcome loads at says = tt
  fault_told (Some text) fault told outcome loads at (answer, is, same, ends) =
      (answer, subst (λ said. AnswersSeen t claims answer said) (sym loads) (is ∙ ap seen_end at), same, ends)

-- nothing is told where it was not read
pub not_told : (r : Option (List ℕ)) → IfSome r (λ text. Unit {0})
not_told None = tt
not_told (Some text) = tt

-- where it was refused, nothing has failed
pub refused_alone : (a a' : ℕ) → a' ≡ a + 0 → a' ≡ a
refused_alone a a' h = omega (arith, h)

-- where it was read, what comes then raises no failure
pub raised_behind : (a a' : ℕ) (result : Result Outcome Unjudged) → a' ≡ a + 0 → ((n : ℕ) → Raised n n result) → Raised a a' result
raised_behind a a' result e h =
    let same : a ≡ a' = omega (arith, e) in
    subst (λ n. Raised a n result) same (h a)

-- where it was not, that is counted
pub unread_alone : (a a' : ℕ) (failure given : Failure) (e : Unjudged) → given ≡ failure → to_write (Err e) ≡ Some (Err given) → a' ≡ a + failed_in {T = ℕ} {F = ℕ} (Err (Failed failure)) → Raised a a' (Err e)
unread_alone a a' failure given e same told h =
    subst (λ n. Raised n a' (Err e)) (add-zero a) (subst (λ n. Raised (a + 0) n (Err e)) (add-zero a') (unread_raised a a' 0 failure given e same told h))

-- what was answered to the text is so to the texts that are left
pub beside_answered : (t : TableRows) (claims : NamedRows) (page : List ℕ) (s : SourceState) (result : Result Outcome Unjudged) → IfSome s.remaining (λ text. Keeps (AnswersText t claims text) page result)
    → (texts : List (List ℕ)) → AreTexts (s ∷ []) texts → Keeps (AnswersBeside t claims texts) page result
beside_answered t claims page s result told [] are = absurd are
beside_answered t claims page s result told (text ∷ []) (e, are) =
    let here = rw e at told in kept_as (AnswersText t claims text) (AnswersBeside t claims (text ∷ [])) page result (λ answer is. is) here
beside_answered t claims page s result told (text ∷ more ∷ texts) (e, are) = absurd are

-- its failures are those of the sources that are left
pub raised_alone : (a a' : ℕ) (result : Result Outcome Unjudged) → Raised a a' result → Raised (a + 0) (a' + 0) result
raised_alone a a' result h = subst (λ n. Raised (a + 0) n result) (sym (add-zero a')) (subst (λ n. Raised n a' result) (sym (add-zero a)) h)

-- ---- what is reported

abbrev pub ObservedFrame : List ℕ → List ℕ → List ℕ → Answer → Type 0
ObservedFrame rows given observed = AnswersWritten (λ w. AnswersCertificate (λ c. AnswersBeside w.tables (named_rows c))) (rows ∷ given ∷ observed ∷ [])

given_as : (t : TableRows) (observed : List ℕ) (answer : Answer) (reading : CertificateReading NamedRows) → FrameClaims (λ c. AnswersBeside t (named_rows c)) (observed ∷ []) answer reading
    → AnswersGiven t observed answer reading
given_as t observed answer (Ok claims) (c, same, is) = subst (λ n. AnswersText t n observed answer) same is
given_as t observed answer (Err fault) is = is

observed_as : (rows given observed : List ℕ) (answer : Answer) → ObservedFrame rows given observed answer → AnswersObserved rows given observed answer
observed_as rows given observed answer (Ok w, tells, is) = (Ok w.tables, tables_alone (tables_of rows) w tells, given_as w.tables observed answer (certificate_of given) is)
observed_as rows given observed answer (Err (RefusedTables fault), tells, is) = (Err (RefusedTables fault), tells, is)
observed_as rows given observed answer (Err (NoTables e), tells, is) = absurd is

pub observed_reports : (rows given observed : List ℕ) (old new : Option (List ℕ)) (a a' b b' d d' p q o k k' : ℕ) (exit : Exit) → p ≡ a' → q ≡ b' → o ≡ d'
    → Reported (WholeOrNone (ObservedFrame rows given observed) (is_answered exit)) old new (a + (b + (d + 0))) (a' + (b' + (d' + 0))) k k' exit
    → ReportsObserved rows given observed old new (a + (b + d)) (p + (q + o)) k k' exit
observed_reports rows given observed old new a a' b b' d d' p q o k k' exit first second third r =
    let same : a' + (b' + d') ≡ p + (q + o) = omega (arith, first, second, third) in
    subst (λ n. ReportsObserved rows given observed old new (a + (b + d)) n k k' exit) same
    (reported_as (WholeOrNone (ObservedFrame rows given observed) (is_answered exit)) (WholeOrNone (AnswersObserved rows given observed) (is_answered exit)) old new (a + (b + d)) (a' + (b' + d')) k k' exit
    (whole_as (ObservedFrame rows given observed) (AnswersObserved rows given observed) (is_answered exit) (observed_as rows given observed))
    (of_three (WholeOrNone (ObservedFrame rows given observed) (is_answered exit)) old new k k' exit a a' b b' d d' r))

pub any_of_three : (old new : Option (List ℕ)) (a a' b b' d d' p q o k k' : ℕ) (exit : Exit) → p ≡ a' → q ≡ b' → o ≡ d'
    → Reported Any old new (a + (b + (d + 0))) (a' + (b' + (d' + 0))) k k' exit → Reported Any old new (a + (b + d)) (p + (q + o)) k k' exit
any_of_three old new a a' b b' d d' p q o k k' exit first second third r =
    let same : a' + (b' + d') ≡ p + (q + o) = omega (arith, first, second, third) in
    subst (λ n. Reported Any old new (a + (b + d)) n k k' exit) same (of_three Any old new k k' exit a a' b b' d d' r)

pub quiet_of_three : (a a' b b' d d' p q o k k' : ℕ) → p ≡ a' → q ≡ b' → o ≡ d' → a' + (b' + (d' + 0)) + k' ≡ a + (b + (d + 0)) + k → p + (q + o) + k' ≡ a + (b + d) + k
quiet_of_three a a' b b' d d' p q o k k' first second third h = omega (arith, first, second, third, h)

-- ---- what is asked for

pub order_both : {Y : Type 0} (r s : Option (List ℕ)) (untouched : Type 0)
    → ((rows text : List ℕ) → r ≡ Some rows → s ≡ Some text
    → ((w : WrittenRows) × AreWrittenBy (tables_of rows) w × ((c : Certificate) × (certificate_of text ≡ Ok (named_rows c)) × Unit {0})) ⊎ (untouched × Y))
    → IfSome r (λ rows. IfSome s (λ text. OnlyBehindBoth rows text untouched))
order_both None s untouched f = tt
order_both (Some rows) None untouched f = tt
order_both (Some rows) (Some text) untouched f = by (f rows text refl refl) where
  by : {Y : Type 0} → ((w : WrittenRows) × AreWrittenBy (tables_of rows) w × ((c : Certificate) × (certificate_of text ≡ Ok (named_rows c)) × Unit {0})) ⊎ (untouched × Y) → OnlyBehindBoth rows text untouched
  by (inl (w, at, (c, reads, x))) = inl (record { rows = w.tables; read = tables_alone (tables_of rows) w at; claims = named_rows c; said = reads })
  by (inr (u, y)) = inr u
