-- The contract of `audit`, from what the frame reports.
use Rattle.std.proofs.Common.{◌≡◌, ◌⊎◌, ℕ, ◌+◌, Bool, List, [], ◌∷◌, refl, subst, Option, Some, None, IfSome, Ok, Err, inl, inr}
use Rattle.dc_cert.specs.Bounds.{certificate_rows}
use Rattle.dc_cert.specs.NamedRows.{NamedRows, named_rows}
use Rattle.dc_cert.specs.Reading.{Reading, certificate_of}
use Rattle.dc_cert.specs.declared.certificate.Certificate.{Certificate}
use Rattle.dc_check.specs.Verdict.{verdict_of}
use Rattle.dc_check.specs.declared.fault.CheckFault.{CheckFault}
use Rattle.dc_document.specs.declared.fault.BuildError.TheVariants.{Refused, Memory as NoMemory}
use Rattle.dc_tables.specs.TableRows.{TableRows}
use Rattle.dc_toml.specs.Reading.{tables_of}
use Rattle.dc_build.specs.Reported.{AreTablesOf}
use Rattle.dc_answer.specs.Answer.{Answer, Reported, WholeOrNone}
use Rattle.dc_answer.specs.Exits.{is_answered}
use Rattle.dc_answer.specs.Inputs.{AnswersCertificate, AnswersClaims, AnswersTables}
use Rattle.dc_answer.specs.declared.exit.Exit.{Exit}
use Rattle.dc_answer.specs.lemmas.Plain.{of_three, reported_as, whole_as}
use Rattle.dc_run_audit.specs.Audit.{AnswersAudit, AnswersClaims as AnswersRunClaims, AnswersTrace, AnswersVerdict as AnswersRunVerdict, OnlyCertified, ReportsAudit}
use Rattle.dc_run.specs.Check.{Certifies}
use Rattle.dc_run.specs.Stages.{AnswersAccepted}

abbrev pub AuditFrame : Bool → List ℕ → List ℕ → List ℕ → Answer → Type 0
AuditFrame long rows text events =
    AnswersTables
    (λ t. AnswersCertificate (λ c texts answer. AnswersAccepted t (AnswersTrace long t (certificate_rows c).ages texts) answer (verdict_of t (named_rows c))))
    (rows ∷ text ∷ events ∷ [])

verdict_as : (long : Bool) (t : TableRows) (c : Certificate) (events : List ℕ) (answer : Answer) (v : Option CheckFault)
    → AnswersAccepted t (AnswersTrace long t (certificate_rows c).ages (events ∷ [])) answer v → AnswersRunVerdict long t (named_rows c) events answer v
verdict_as long t c events answer None is = is
verdict_as long t c events answer (Some fault) is = is

audit_claims_as : (long : Bool) (t : TableRows) (events : List ℕ) (answer : Answer) (reading : Reading NamedRows)
    → AnswersClaims (λ c texts a. AnswersAccepted t (AnswersTrace long t (certificate_rows c).ages texts) a (verdict_of t (named_rows c))) (events ∷ []) answer reading
    → AnswersRunClaims long t events answer reading
audit_claims_as long t events answer (Ok claims) (c, same, is) =
    subst (λ n. AnswersRunVerdict long t n events answer (verdict_of t n)) same (verdict_as long t c events answer (verdict_of t (named_rows c)) is)
audit_claims_as long t events answer (Err fault) is = is

audit_as : (long : Bool) (rows text events : List ℕ) (answer : Answer) → AuditFrame long rows text events answer → AnswersAudit long rows text events answer
audit_as long rows text events answer (Ok t, tells, is) = (Ok t, tells, audit_claims_as long t events answer (certificate_of text) is)
audit_as long rows text events answer (Err (Refused fault), tells, is) = (Err (Refused fault), tells, is)
audit_as long rows text events answer (Err (NoMemory e), tells, is) = absurd is

pub audit_reports : (long : Bool) (rows text events : List ℕ) (old new : Option (List ℕ)) (a a' b b' d d' k k' : ℕ) (exit : Exit)
    → Reported (WholeOrNone (AuditFrame long rows text events) (is_answered exit)) old new (a + (b + (d + 0))) (a' + (b' + (d' + 0))) k k' exit
    → ReportsAudit long rows text events old new (a + (b + d)) (a' + (b' + d')) k k' exit
audit_reports long rows text events old new a a' b b' d d' k k' exit r =
    reported_as (WholeOrNone (AuditFrame long rows text events) (is_answered exit)) (WholeOrNone (AnswersAudit long rows text events) (is_answered exit)) old new (a + (b + d)) (a' + (b' + d')) k k' exit
    (whole_as (AuditFrame long rows text events) (AnswersAudit long rows text events) (is_answered exit) (audit_as long rows text events))
    (of_three (WholeOrNone (AuditFrame long rows text events) (is_answered exit)) old new k k' exit a a' b b' d d' r)

-- ---- what is asked for

pub order_two : {Y : Type 0} (r s : Option (List ℕ)) (untouched : Type 0)
    → ((rows text : List ℕ) → r ≡ Some rows → s ≡ Some text
    → ((t : TableRows) × AreTablesOf (tables_of rows) t × ((c : Certificate) × (certificate_of text ≡ Ok (named_rows c)) × (Certifies t (Ok (named_rows c)) × Unit {0}))) ⊎ (untouched × Y))
    → IfSome r (λ rows. IfSome s (λ text. OnlyCertified rows text untouched))
order_two None s untouched f = tt
order_two (Some rows) None untouched f = tt
order_two (Some rows) (Some text) untouched f = by (f rows text refl refl) where
  by : {Y : Type 0} → ((t : TableRows) × AreTablesOf (tables_of rows) t × ((c : Certificate) × (certificate_of text ≡ Ok (named_rows c)) × (Certifies t (Ok (named_rows c)) × Unit {0}))) ⊎ (untouched × Y)
      → OnlyCertified rows text untouched
  by (inl (t, at, (c, reads, (certified, x)))) = inl (record { rows = t; read = at; certified = rw reads certified })
  by (inr (u, y)) = inr u
