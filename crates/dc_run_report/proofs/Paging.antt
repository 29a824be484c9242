-- What `report` answers, and what it reports from what the frame does.
use Rattle.std.proofs.Common.{◌≡◌, ℕ, ◌+◌, ◌++◌, List, [], ◌∷◌, refl, ap, subst, sym, ◌∙◌, append-nil, append_assoc, arith, Option, IfOk, Result, Ok, Err, inl, inr}
use Rattle.dc_cert.specs.NamedRows.{NamedRows, named_rows}
use Rattle.dc_cert.specs.Reading.{Reading as CertificateReading, certificate_of}
use Rattle.dc_check.specs.Verdict.{verdict_of}
use Rattle.dc_find.specs.Least.{IsLeastAccepted, NoneAccepted}
use Rattle.dc_find.specs.Ways.{IsFirstInTheWay}
use Rattle.dc_find.specs.declared.fault.FindFault.{FindFault}
use Rattle.dc_document.specs.declared.fault.BuildError.TheVariants.{Refused as RefusedTables, Memory as NoTables}
use Rattle.dc_build.specs.Reported.{AreTablesOf, AreWrittenBy}
use Rattle.dc_build.specs.Written.{WrittenRows}
use Rattle.dc_tables.specs.TableRows.{TableRows}
use Rattle.dc_toml.specs.Faults.{Reading}
use Rattle.dc_toml.specs.Reading.{tables_of}
use Rattle.dc_toml.specs.Written.{Written}
use Rattle.dc_answer.specs.Answer.{Answer, Any, Reported, WholeOrNone, one_line}
use Rattle.dc_answer.specs.Exits.{is_answered}
use Rattle.dc_answer.specs.Inputs.{AnswersCertificate, AnswersWritten, AnswersClaims as FrameClaims}
use Rattle.dc_answer.specs.Judging.{Keeps, Says}
use Rattle.dc_answer.specs.declared.exit.Exit.{Exit}
use Rattle.dc_answer.specs.declared.exit.Outcome.{Outcome}
use Rattle.dc_answer.specs.declared.exit.Outcome.TheVariants.{Done, Refused as WasRefused}
use Rattle.dc_answer.specs.lemmas.Judgments.{kept_as, one_said}
use Rattle.dc_answer.specs.lemmas.Plain.{of_one, of_two, reported_as, whole_as}
use Rattle.dc_run.specs.Find.{obstacle_text}
use Rattle.dc_run_report.specs.Paper.{AnswersClaims, AnswersLeast, AnswersReport, AnswersRows, AnswersSought, Holds, IsPage, ReportsLeast, ReportsPage, outcome_of}

-- ---- what is told

-- a page of which nothing is said, with its outcome
pub page_kept : {E : Type 0} (text : List ℕ) (outcome : Outcome) (result : Result Outcome E) → IfOk result (λ o. o ≡ outcome) → Keeps (IsPage outcome) text result
page_kept text outcome (Ok o) is = one_said (IsPage outcome) text text o refl (text, ap (one_line text) is)
page_kept text outcome (Err e) is = tt

pub found_kept : {E : Type 0} (t : TableRows) (claims : NamedRows) (text : List ℕ) (result : Result Outcome E) → IsLeastAccepted t claims → IfOk result (λ o. o ≡ Done) → Keeps (AnswersRows t) text result
found_kept t claims text (Ok o) least is = one_said (AnswersRows t) text text o refl (inl (claims, least, (text, ap (one_line text) is)))
found_kept t claims text (Err e) least is = tt

-- a page with the line of what stands first in the way
pub sought_kept : (t : TableRows) (fault : FindFault) (text : List ℕ) (o : Outcome) → NoneAccepted t → IsFirstInTheWay t fault → Holds (obstacle_text t fault) text → o ≡ WasRefused
    → Says (AnswersSought t) text o
sought_kept t fault text o none first holds is =
    one_said (AnswersSought t) text text o refl (record { fault = fault; none = none; first = first; page = text; holds = holds; said = ap (one_line text) is })

-- the same, as one of both answers
pub rows_kept : {E : Type 0} (t : TableRows) (text : List ℕ) (result : Result Outcome E) → Keeps (AnswersSought t) text result → Keeps (AnswersRows t) text result
rows_kept t text result = kept_as (AnswersSought t) (AnswersRows t) text result (λ answer is. inr is)

-- a line behind what was kept before, and what is added behind it
pub line_held : (front line old new : List ℕ) → old ≡ front → new ≡ old ++ line → Holds line new
line_held front line old new same is = (front, [], is ∙ ap (λ x. x ++ line) same ∙ ap (λ x. front ++ x) (sym (append-nil line)))

pub more_held : (line old back new : List ℕ) → Holds line old → new ≡ old ++ back → Holds line new
more_held line old back new (front, rest, is) more =
    (front, rest ++ back, more ∙ ap (λ x. x ++ back) is ∙ append_assoc front (line ++ rest) back ∙ ap (λ x. front ++ x) (append_assoc line rest back))

-- ---- what is reported

abbrev pub ReportFrame : List ℕ → List ℕ → Answer → Type 0
ReportFrame rows given = AnswersWritten (λ w. AnswersCertificate (λ c texts answer. IsPage (outcome_of (verdict_of w.tables (named_rows c))) answer)) (rows ∷ given ∷ [])

abbrev pub LeastFrame : List ℕ → Answer → Type 0
LeastFrame rows = AnswersWritten (λ w texts answer. AnswersRows w.tables answer) (rows ∷ [])

-- the tables beside a document are its tables
pub tables_alone : (reading : Reading Written) (w : WrittenRows) → AreWrittenBy reading w → AreTablesOf reading w.tables
tables_alone reading w by = record { parts = w.parts; said = by.said; valid = by.valid; rows_of = by.rows_of }

claims_as : (t : TableRows) (reading : CertificateReading NamedRows) (answer : Answer) → FrameClaims (λ c texts a. IsPage (outcome_of (verdict_of t (named_rows c))) a) [] answer reading
    → AnswersClaims t answer reading
claims_as t (Ok claims) answer (c, same, is) = subst (λ n. IsPage (outcome_of (verdict_of t n)) answer) same is
claims_as t (Err fault) answer is = is

page_as : (rows given : List ℕ) (answer : Answer) → ReportFrame rows given answer → AnswersReport rows given answer
page_as rows given answer (Ok w, tells, is) = (Ok w.tables, tables_alone (tables_of rows) w tells, claims_as w.tables (certificate_of given) answer is)
page_as rows given answer (Err (RefusedTables fault), tells, is) = (Err (RefusedTables fault), tells, is)
page_as rows given answer (Err (NoTables e), tells, is) = absurd is

least_as : (rows : List ℕ) (answer : Answer) → LeastFrame rows answer → AnswersLeast rows answer
least_as rows answer (Ok w, tells, is) = (Ok w.tables, tables_alone (tables_of rows) w tells, is)
least_as rows answer (Err (RefusedTables fault), tells, is) = (Err (RefusedTables fault), tells, is)
least_as rows answer (Err (NoTables e), tells, is) = absurd is

-- Of each source how often it had failed before the call (`a`, `b`) and has failed after it, as the frame has it (`a'`, `b'`) and as the
-- caller does (`p`, `q`).

pub page_reports : (rows given : List ℕ) (old new : Option (List ℕ)) (a a' b b' p q k k' : ℕ) (exit : Exit) → p ≡ a' → q ≡ b'
    → Reported (WholeOrNone (ReportFrame rows given) (is_answered exit)) old new (a + (b + 0)) (a' + (b' + 0)) k k' exit → ReportsPage rows given old new (a + b) (p + q) k k' exit
page_reports rows given old new a a' b b' p q k k' exit first second r =
    let same : a' + b' ≡ p + q = omega (arith, first, second) in
    subst (λ n. ReportsPage rows given old new (a + b) n k k' exit) same
    (reported_as (WholeOrNone (ReportFrame rows given) (is_answered exit)) (WholeOrNone (AnswersReport rows given) (is_answered exit)) old new (a + b) (a' + b') k k' exit
    (whole_as (ReportFrame rows given) (AnswersReport rows given) (is_answered exit) (page_as rows given))
    (of_two (WholeOrNone (ReportFrame rows given) (is_answered exit)) old new k k' exit a a' b b' r))

pub least_reports : (rows : List ℕ) (old new : Option (List ℕ)) (a a' p k k' : ℕ) (exit : Exit) → p ≡ a'
    → Reported (WholeOrNone (LeastFrame rows) (is_answered exit)) old new (a + 0) (a' + 0) k k' exit → ReportsLeast rows old new a p k k' exit
least_reports rows old new a a' p k k' exit first r =
    subst (λ n. ReportsLeast rows old new a n k k' exit) (sym first)
    (reported_as (WholeOrNone (LeastFrame rows) (is_answered exit)) (WholeOrNone (AnswersLeast rows) (is_answered exit)) old new a a' k k' exit
    (whole_as (LeastFrame rows) (AnswersLeast rows) (is_answered exit) (least_as rows)) (of_one (WholeOrNone (LeastFrame rows) (is_answered exit)) old new k k' exit a a' r))

-- whatever the sources give
pub any_of_two : (old new : Option (List ℕ)) (a a' b b' p q k k' : ℕ) (exit : Exit) → p ≡ a' → q ≡ b'
    → Reported Any old new (a + (b + 0)) (a' + (b' + 0)) k k' exit → Reported Any old new (a + b) (p + q) k k' exit
any_of_two old new a a' b b' p q k k' exit first second r =
    let same : a' + b' ≡ p + q = omega (arith, first, second) in
    subst (λ n. Reported Any old new (a + b) n k k' exit) same (of_two Any old new k k' exit a a' b b' r)

pub any_of_one : (old new : Option (List ℕ)) (a a' p k k' : ℕ) (exit : Exit) → p ≡ a' → Reported Any old new (a + 0) (a' + 0) k k' exit → Reported Any old new a p k k' exit
any_of_one old new a a' p k k' exit first r = subst (λ n. Reported Any old new a n k k' exit) (sym first) (of_one Any old new k k' exit a a' r)

-- nothing has failed
pub quiet_of_two : (a a' b b' p q k k' : ℕ) → p ≡ a' → q ≡ b' → a' + (b' + 0) + k' ≡ a + (b + 0) + k → p + q + k' ≡ a + b + k
quiet_of_two a a' b b' p q k k' first second h = omega (arith, first, second, h)

pub quiet_of_one : (a a' p k k' : ℕ) → p ≡ a' → a' + 0 + k' ≡ a + 0 + k → p + k' ≡ a + k
quiet_of_one a a' p k k' first h = omega (arith, first, h)
