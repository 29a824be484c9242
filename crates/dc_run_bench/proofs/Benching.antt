-- What `bench` answers and reports, exit by exit.
use Rattle.std.proofs.Common.{◌≡◌, ℕ, Bool, ◌⊎◌, ◌+◌, ◌++◌, List, [], ◌∷◌, refl, sym, ap, subst, ◌∙◌, codes, Option, Some, None, IfSome, Result, Ok, Err, inl, inr}
use Rattle.dc_answer.specs.Answer.{Answer, Reported, WholeOrNone}
use Rattle.dc_answer.specs.Exits.{is_answered}
use Rattle.dc_answer.specs.Inputs.{AnswersTables, AnswersCertificate as FrameCertificate, AnswersClaims as FrameClaims}
use Rattle.dc_answer.specs.Judging.{Keeps, Says}
use Rattle.dc_answer.specs.declared.judge.Unjudged.{Unjudged}
use Rattle.dc_answer.specs.Threads.{ReportsThreads}
use Rattle.dc_answer.specs.declared.exit.Exit.{Exit}
use Rattle.dc_answer.specs.declared.exit.Outcome.{Outcome}
use Rattle.dc_answer.specs.declared.exit.Outcome.TheVariants.{Refused as WasRefused}
use Rattle.dc_answer.specs.lemmas.Judgments.{kept_as, one_said}
use Rattle.dc_answer.specs.lemmas.Plain.{of_two, reported_as, threads_two, whole_as}
use Rattle.dc_run_bench.specs.Bench.{AnswersBench, AnswersCertificate, AnswersRun, ReportsBench, HasRefused, IsSeen, answer_seen, seen_lines, seen_outcome}
use Rattle.dc_run_bench.specs.Marks.{lines_behind}
use Rattle.dc_run_bench.specs.Texts.{AnswersClaims}
use Rattle.dc_run_bench.specs.declared.driven.Seen.{Seen}
use Rattle.dc_cert.specs.NamedRows.{NamedRows, named_rows}
use Rattle.dc_cert.specs.Reading.{Reading, certificate_of as certificate_read}
use Rattle.dc_check.specs.Lent.{tables_of, certificate_of}
use Rattle.dc_check.specs.Verdict.{verdict_of}
use Rattle.dc_check.specs.declared.certified.Certified.{Certified}
use Rattle.dc_check.specs.declared.fault.CheckFault.{CheckFault}
use Rattle.dc_device.specs.Lines.{spelled}
use Rattle.std.proofs.lemmas.Option.{slice_get-get_or}
use Rattle.atomic_table.specs.Seated.{TableId}
use Rattle.dc_drive.specs.Played.{AreOfHub}
use Rattle.dc_hub.specs.Views.{AreNewWires, ClosedView, WireView}
use Rattle.dc_document.specs.declared.fault.BuildError.TheVariants.{Refused, Memory as NoMemory}
use Rattle.dc_print.specs.Verdicts.{refused_text}
use Rattle.dc_script.specs.Script.{ScriptView, bench_script}
use Rattle.dc_tables.specs.TableRows.{TableRows}

-- what was seen was printed
pub seen_judged : (certified : Certified) (ticks : ℕ) (marks : Bool) (book : ClosedView) (s : Seen) (text : List ℕ) (outcome : Outcome) → IsSeen certified ticks book s
    → text ++ 10 ∷ [] ≡ spelled (seen_lines s ++ lines_behind marks book) → outcome ≡ seen_outcome s → Says (AnswersRun certified ticks marks) text outcome
seen_judged certified ticks marks book s text outcome seen same is = (answer_seen marks book s, inr (book, s, seen, refl), same, is)

-- the hub refused
pub hub_judged : (known : Option Certified) (ticks : ℕ) (marks : Bool) (text : List ℕ) → text ≡ codes "refused hub" → IfSome known (λ c. HasRefused c ticks)
    → IfSome known (λ c. Says (AnswersRun c ticks marks) text WasRefused)
hub_judged None ticks marks text same why = tt
hub_judged (Some c) ticks marks text same why = one_said (AnswersRun c ticks marks) text (codes "refused hub") WasRefused same (inl (refl, why))

-- the script is as long as the bench
pub script_is : (t : TableRows) (ticks : ℕ) (s : ScriptView) → s ≡ bench_script t ticks → s ≡ bench_script t s.ticks
unfolding bench_script
script_is t ticks s is = subst (λ n. s ≡ bench_script t n) (sym (ap (λ (x : ScriptView). x.ticks) is)) is

pub ran_by_script : (certified : Certified) (t : TableRows) (ticks : ℕ) (marks : Bool) (s : ScriptView) (text : List ℕ) (result : Result Outcome Unjudged) → s ≡ bench_script t ticks
    → Keeps (AnswersRun certified s.ticks marks) text result → Keeps (AnswersRun certified ticks marks) text result
unfolding bench_script
ran_by_script certified t ticks marks s text result is judged = subst (λ n. Keeps (AnswersRun certified n marks) text result) (ap (λ (x : ScriptView). x.ticks) is) judged

module _ (t : TableRows) (ticks : ℕ) (marks : Bool) (claims : NamedRows) (text : List ℕ) where
  -- the certificate is accepted, and a hub ran for so many ticks
  pub ran_judged : (certified : Certified) (shared : TableRows) (n : ℕ) (result : Result Outcome Unjudged) → tables_of certified ≡ shared → shared ≡ t → named_rows (certificate_of certified) ≡ claims → n ≡ ticks
      → verdict_of shared claims ≡ None → Keeps (AnswersRun certified n marks) text result → Keeps (AnswersCertificate ticks marks t claims) text result
  ran_judged certified shared n result lent same claimed is none ran =
      let here : verdict_of t claims ≡ None = subst (λ u. verdict_of u claims ≡ None) same none in
      let so : Keeps (AnswersRun certified ticks marks) text result = subst (λ m. Keeps (AnswersRun certified m marks) text result) is ran in
      kept_as (AnswersRun certified ticks marks) (AnswersCertificate ticks marks t claims) text result (λ answer is. rw here (certified, lent ∙ same, claimed, is)) so

  -- it is refused
  pub refusal_judged : (shared printed : TableRows) (fault : CheckFault) → shared ≡ t → printed ≡ t → verdict_of shared claims ≡ Some fault → text ≡ refused_text printed fault
      → Says (AnswersCertificate ticks marks t claims) text WasRefused
  refusal_judged shared printed fault same print_same refused is =
      let here : verdict_of t claims ≡ Some fault = subst (λ u. verdict_of u claims ≡ Some fault) same refused in
      let said : text ≡ refused_text t fault = subst (λ u. text ≡ refused_text u fault) print_same is in
      one_said (AnswersCertificate ticks marks t claims) text (refused_text t fault) WasRefused said (rw here refl)

-- each wire's seat of a new hub is of it
pub new-of : (hub : TableId × List ℕ) (ws : List WireView) (n : ℕ) → AreNewWires hub ws n → AreOfHub hub ws
new-of hub ws n are k d inside = (are.1 k _ (slice_get-get_or ws k d inside)).board_seat

-- ---- what the frame reports

-- the words of the frame
abbrev pub BenchFrame : List ℕ → List ℕ → ℕ → Bool → Answer → Type 0
BenchFrame rows text ticks marks = AnswersTables (λ t. FrameCertificate (λ c texts answer. AnswersCertificate ticks marks t (named_rows c) answer)) (rows ∷ text ∷ [])

module _ (ticks : ℕ) (marks : Bool) where
  claims_as : (t : TableRows) (reading : Reading NamedRows) (answer : Answer) → FrameClaims (λ c texts a. AnswersCertificate ticks marks t (named_rows c) a) [] answer reading
      → AnswersClaims (AnswersCertificate ticks marks) t reading answer
  claims_as t (Ok claims) answer (c, same, is) = subst (λ n. AnswersCertificate ticks marks t n answer) same is
  claims_as t (Err fault) answer is = is

  bench_as : (rows text : List ℕ) (answer : Answer) → BenchFrame rows text ticks marks answer → AnswersBench rows text ticks marks answer
  bench_as rows text answer (Ok t, tells, is) = (Ok t, tells, claims_as t (certificate_read text) answer is)
  bench_as rows text answer (Err (Refused fault), tells, is) = (Err (Refused fault), tells, is)
  bench_as rows text answer (Err (NoMemory e), tells, is) = absurd is

  -- a bench, or that a thread could not be started
  pub bench_reports_or : (rows text : List ℕ) (old new : Option (List ℕ)) (a a' b b' k k' : ℕ) (exit : Exit)
      → Reported (WholeOrNone (BenchFrame rows text ticks marks) (is_answered exit)) old new (a + (b + 0)) (a' + (b' + 0)) k k' exit
      ⊎ (Unit {0} × ReportsThreads old new (a + (b + 0)) (a' + (b' + 0)) k k' exit)
      → ReportsBench rows text ticks marks old new (a + b) (a' + b') k k' exit ⊎ ReportsThreads old new (a + b) (a' + b') k k' exit
  bench_reports_or rows text old new a a' b b' k k' exit (inl r) =
      inl (reported_as (WholeOrNone (BenchFrame rows text ticks marks) (is_answered exit)) (WholeOrNone (AnswersBench rows text ticks marks) (is_answered exit)) old new (a + b) (a' + b') k k' exit
      (whole_as (BenchFrame rows text ticks marks) (AnswersBench rows text ticks marks) (is_answered exit) (bench_as rows text))
      (of_two (WholeOrNone (BenchFrame rows text ticks marks) (is_answered exit)) old new k k' exit a a' b b' r))
  bench_reports_or rows text old new a a' b b' k k' exit (inr h) = inr (threads_two old new k k' exit a a' b b' h.1)
