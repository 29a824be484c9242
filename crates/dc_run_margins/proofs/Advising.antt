-- What `margins` answers, and what it reports from what the frame does.
use Rattle.std.proofs.Common.{◌≡◌, ◌≢◌, ℕ, ◌+◌, ◌++◌, List, [], ◌∷◌, refl, sym, ◌∙◌, ap, ap₂, subst, Option, None, Some, map, Ok, Err, inl, inr}
use Rattle.dc_answer.specs.Answer.{Answer, Reported, WholeOrNone}
use Rattle.dc_answer.specs.Exits.{is_answered}
use Rattle.dc_answer.specs.Inputs.{AnswersCertificate, AnswersClaims, AnswersWritten}
use Rattle.dc_answer.specs.Judging.{Says}
use Rattle.dc_answer.specs.declared.exit.Exit.{Exit}
use Rattle.dc_answer.specs.declared.exit.Outcome.{Outcome}
use Rattle.dc_answer.specs.lemmas.Plain.{of_one, of_two, reported_as, whole_as}
use Rattle.dc_device.specs.Lines.{spelled}
use Rattle.dc_cert.specs.Bounds.{numbers_of}
use Rattle.dc_cert.specs.Faults.{fault_text}
use Rattle.dc_cert.specs.NamedRows.{NamedRows, named_rows}
use Rattle.dc_cert.specs.Reading.{Reading, certificate_of}
use Rattle.dc_check.specs.Verdict.{misnaming, verdict_of}
use Rattle.dc_check.specs.declared.fault.CheckFault.{CheckFault}
use Rattle.dc_check.specs.lemmas.Jobs.{verdict-names}
use Rattle.dc_margin.specs.Lines.{margin_lines_of}
use Rattle.dc_document.specs.FaultText.{table_fault_text}
use Rattle.dc_document.specs.declared.fault.BuildError.TheVariants.{Refused as RefusedTables, Memory as NoTables}
use Rattle.dc_build.specs.Written.{WrittenRows}
use Rattle.dc_run_margins.proofs.Enclosing.{done_as, refused_as, unreadable_as}
use Rattle.dc_run_margins.proofs.Feeding.{fed-both, fed-spelled}
use Rattle.dc_run_margins.specs.Objects.{margin_told}
use Rattle.dc_run_margins.specs.Telling.{AnswersTold, IsToldAs, told_as}
use Rattle.dc_run_margins.specs.declared.telling.LineKey.TheVariants.{Verdict}
use Rattle.dc_run_margins.specs.Margins.{AnswersMargins, AnswersRows, AnswersTablesAlone, ReportsLeast, ReportsMargins, ages_where, answer_claims, answer_margins, fed, lines_where, verdict_line, verdict_outcome}
use Rattle.dc_run_margins.specs.Drift.{lines_of_drift}
use Rattle.dc_run_margins.specs.declared.telling.Telling.{Telling}

-- the lines were kept: the first one, those behind it, and others behind these
pub lines_judged : (wanted : Answer) (first : List ℕ) (rest more : List (List ℕ)) (line mid text : List ℕ) (outcome : Outcome) → line ≡ first → mid ≡ line ++ fed rest → text ≡ mid ++ fed more
    → wanted.lines ≡ first ∷ (rest ++ more) → outcome ≡ wanted.outcome → Says (λ answer. answer ≡ wanted) text outcome
lines_judged wanted first rest more line mid text outcome same is next lines ends = (
  wanted,
  refl,
  ap (λ l. l ++ 10 ∷ []) (fed-both line mid text rest more is next ∙ ap (λ l. l ++ fed (rest ++ more)) same) ∙ fed-spelled first (rest ++ more) ∙ sym (ap spelled lines),
  ends,
)

-- of a certificate with the tables' names
pub named-lines : (told : Telling) (w : WrittenRows) (claims : NamedRows) → misnaming w.tables claims ≡ None
    → (answer_margins told w claims).lines ≡ told_as told.json Verdict (verdict_line w.tables (verdict_of w.tables claims)) ∷ (map (margin_told told w.tables) (margin_lines_of w.tables (numbers_of claims)) ++ lines_of_drift told.json w told.drift (ages_where (verdict_of w.tables claims) claims))
named-lines told w claims named =
    ap (λ m. told_as told.json Verdict (verdict_line w.tables (verdict_of w.tables claims)) ∷ (lines_where m told w.tables (numbers_of claims) ++ lines_of_drift told.json w told.drift (ages_where (verdict_of w.tables claims) claims))) named

-- of one with other names
pub misnamed-lines : (told : Telling) (w : WrittenRows) (claims : NamedRows) → misnaming w.tables claims ≢ None
    → (answer_margins told w claims).lines ≡ told_as told.json Verdict (verdict_line w.tables (verdict_of w.tables claims)) ∷ lines_of_drift told.json w told.drift None
misnamed-lines told w claims not = by (misnaming w.tables claims) refl where
  by : (m : Option CheckFault) → misnaming w.tables claims ≡ m
      → (answer_margins told w claims).lines ≡ told_as told.json Verdict (verdict_line w.tables (verdict_of w.tables claims)) ∷ lines_of_drift told.json w told.drift None
  by None is = absurd (not is)
  by (Some fault) is =
      ap₂ (λ m v. told_as told.json Verdict (verdict_line w.tables (verdict_of w.tables claims)) ∷ (lines_where m told w.tables (numbers_of claims) ++ lines_of_drift told.json w told.drift (ages_where v claims))) is
      (verdict-names w.tables claims fault is)

-- ---- what is reported

module _ (told : Telling) where
  abbrev pub MarginsFrame : List ℕ → List ℕ → Answer → Type 0
  MarginsFrame rows claims = AnswersTold told.json (AnswersWritten (λ w. AnswersCertificate (λ c texts answer. answer ≡ answer_margins told w (named_rows c))) (rows ∷ claims ∷ []))

  abbrev pub LeastFrame : List ℕ → Answer → Type 0
  LeastFrame rows = AnswersTold told.json (AnswersWritten (λ w texts answer. AnswersRows told w answer) (rows ∷ []))

  -- a verdict is told as it is
  verdict_as : (plain answer wanted : Answer) (fault : Option CheckFault) → wanted.outcome ≡ verdict_outcome fault → plain ≡ wanted → IsToldAs told.json plain answer plain.outcome → answer ≡ wanted
  verdict_as plain answer wanted None ends is said = done_as told.json plain answer (ap (λ a. a.outcome) is ∙ ends) said ∙ is
  verdict_as plain answer wanted (Some fault) ends is said = refused_as told.json plain answer (ap (λ a. a.outcome) is ∙ ends) said ∙ is

  claims_as : (w : WrittenRows) (reading : Reading NamedRows) (plain answer : Answer) → AnswersClaims (λ c texts a. a ≡ answer_margins told w (named_rows c)) [] plain reading
      → IsToldAs told.json plain answer plain.outcome → answer ≡ answer_claims told w reading
  claims_as w (Ok claims) plain answer (c, same, is) said =
      verdict_as plain answer (answer_margins told w claims) (verdict_of w.tables claims) refl (subst (λ n. plain ≡ answer_margins told w n) same is) said
  claims_as w (Err fault) plain answer is said = unreadable_as told.json plain answer (fault_text fault) is said

  -- the least certificate's, or what stands in the way of one
  rows_as : (w : WrittenRows) (plain answer : Answer) → AnswersRows told w plain → IsToldAs told.json plain answer plain.outcome → AnswersRows told w answer
  rows_as w plain answer (inl least) said =
      subst (AnswersRows told w) (sym (done_as told.json plain answer (ap (λ a. a.outcome) least.is ∙ ap verdict_outcome least.accepted) said)) (inl least)
  rows_as w plain answer (inr reached) said =
      subst (AnswersRows told w) (sym (refused_as told.json plain answer (ap (λ a. a.outcome) reached.is ∙ ap (λ a. a.outcome) reached.obstacle.said) said)) (inr reached)

  margins_as : (rows claims : List ℕ) (answer : Answer) → MarginsFrame rows claims answer → AnswersMargins told rows claims answer
  margins_as rows claims answer (plain, (Ok w, tells, is), said) = (Ok w, tells, claims_as w (certificate_of claims) plain answer is said)
  margins_as rows claims answer (plain, (Err (RefusedTables fault), tells, is), said) =
      (Err (RefusedTables fault), tells, unreadable_as told.json plain answer (table_fault_text fault) is said)
  margins_as rows claims answer (plain, (Err (NoTables e), tells, is), said) = absurd is

  least_as : (rows : List ℕ) (answer : Answer) → LeastFrame rows answer → AnswersTablesAlone told rows answer
  least_as rows answer (plain, (Ok w, tells, is), said) = (Ok w, tells, rows_as w plain answer is said)
  least_as rows answer (plain, (Err (RefusedTables fault), tells, is), said) =
      (Err (RefusedTables fault), tells, unreadable_as told.json plain answer (table_fault_text fault) is said)
  least_as rows answer (plain, (Err (NoTables e), tells, is), said) = absurd is

  pub margins_reports : (rows claims : List ℕ) (old new : Option (List ℕ)) (a a' b b' k k' : ℕ) (exit : Exit)
      → Reported (WholeOrNone (MarginsFrame rows claims) (is_answered exit)) old new (a + (b + 0)) (a' + (b' + 0)) k k' exit → ReportsMargins told rows claims old new (a + b) (a' + b') k k' exit
  margins_reports rows claims old new a a' b b' k k' exit r =
      reported_as (WholeOrNone (MarginsFrame rows claims) (is_answered exit)) (WholeOrNone (AnswersMargins told rows claims) (is_answered exit)) old new (a + b) (a' + b') k k' exit
      (whole_as (MarginsFrame rows claims) (AnswersMargins told rows claims) (is_answered exit) (margins_as rows claims))
      (of_two (WholeOrNone (MarginsFrame rows claims) (is_answered exit)) old new k k' exit a a' b b' r)

  pub least_reports : (rows : List ℕ) (old new : Option (List ℕ)) (a a' k k' : ℕ) (exit : Exit)
      → Reported (WholeOrNone (LeastFrame rows) (is_answered exit)) old new (a + 0) (a' + 0) k k' exit → ReportsLeast told rows old new a a' k k' exit
  least_reports rows old new a a' k k' exit r =
      reported_as (WholeOrNone (LeastFrame rows) (is_answered exit)) (WholeOrNone (AnswersTablesAlone told rows) (is_answered exit)) old new a a' k k' exit
      (whole_as (LeastFrame rows) (AnswersTablesAlone told rows) (is_answered exit) (least_as rows)) (of_one (WholeOrNone (LeastFrame rows) (is_answered exit)) old new k k' exit a a' r)
