-- What `bench` answers to the texts of tables and of a certificate.
use Rattle.std.specs.Prelude.{◌≡◌, ◌≢◌, ◌⊎◌, ℕ, ◌≤◌, Bool, is_none, if◌then◌else◌, Option, Some, None, List, [], ◌∷◌, ◌++◌, length, codes, decimal}
use Rattle.dc_cert.specs.Bounds.{certificate_rows}
use Rattle.dc_cert.specs.NamedRows.{NamedRows, named_rows}
use Rattle.dc_check.specs.Lent.{tables_of as tables_in, certificate_of as certificate_in}
use Rattle.dc_check.specs.Verdict.{verdict_of}
use Rattle.dc_check.specs.declared.certified.Certified.{Certified}
use Rattle.dc_check.specs.declared.fault.CheckFault.{CheckFault}
use Rattle.dc_drive.specs.Played.{AllPlayed, IsDriven}
use Rattle.dc_drive.specs.Refusals.{IsRefused}
use Rattle.dc_event.specs.Breaks.{BreaksClaimsAt}
use Rattle.dc_hub.specs.Entries.{IsLegal, events, overruns_in}
use Rattle.dc_hub.specs.Closing.{IsCloseFault}
use Rattle.dc_hub.specs.Views.{BookView, ClosedView, SeatView, WireView, IsBookOf}
use Rattle.dc_hub.specs.declared.fault.CloseFault.{CloseFault}
use Rattle.dc_hub.specs.declared.fault.HubFault.{HubFault}
use Rattle.dc_hub.specs.declared.fault.HubFault.TheVariants.{Memory}
use Rattle.dc_hub.specs.declared.limits.TheConstants.{LONGEST_TRACE}
use Rattle.dc_script.specs.Script.{ScriptView, bench_script}
use Rattle.dc_tables.specs.TableRows.{TableRows}
use Rattle.dc_answer.specs.Answer.{Answer, Reported, WholeOrNone, one_line}
use Rattle.dc_answer.specs.Exits.{is_answered}
use Rattle.dc_answer.specs.declared.exit.Exit.{Exit}
use Rattle.dc_answer.specs.declared.exit.Outcome.{Outcome}
use Rattle.dc_answer.specs.declared.exit.Outcome.TheVariants.{Done, Refused}
use Rattle.dc_run.specs.Claims.{claims_text}
use Rattle.dc_run.specs.Check.{answer_verdict}
use Rattle.dc_run_bench.specs.Marks.{lines_behind}
use Rattle.dc_run_bench.specs.Texts.{AnswersTexts}
use Rattle.dc_run_bench.specs.declared.driven.Seen.{Seen}

-- ---- a hub that ran

-- as `entries 840`
abbrev pub count_text : List ℕ → ℕ → List ℕ
count_text subject count = subject ++ decimal count

-- the four lines of a bench: its ticks, entries and overruns, and the claims
abbrev pub seen_lines : Seen → List (List ℕ)
seen_lines s = count_text (codes "ticks ") s.ticks ∷ count_text (codes "entries ") s.entries ∷ count_text (codes "overruns ") s.overruns ∷ claims_text s.claims ∷ []

-- what a bench ends with: done where the claims hold, else refused
abbrev pub seen_outcome : Seen → Outcome
seen_outcome s = if is_none s.claims then Done else Refused

-- the answer of a bench: its four lines, and behind them the marks of its closed book where they are asked for
abbrev pub answer_seen : Bool → ClosedView → Seen → Answer
answer_seen marks book s = record { lines = seen_lines s ++ lines_behind marks book; outcome = seen_outcome s }

-- What was seen is so of the closed book of a hub that was opened over these tables with this certificate and the longest trace limit, and was driven by the
-- script of a bench of so many ticks: its entries are legal, and hold of each actor what it is to make; how many there are, how many overruns, and the least claim
-- that fails at the first entry at which any does, by the ages of the certificate.
pub record IsSeen (certified : Certified) (ticks : ℕ) (book : ClosedView) (s : Seen) : Type 0 where
  pub ran : s.ticks ≡ ticks
  pub of_certified : book.certified ≡ certified
  pub fits : length book.entries ≤ LONGEST_TRACE
  pub driven : IsDriven (tables_in certified) (bench_script (tables_in certified) ticks) (events book.entries)
  pub legal : IsLegal (tables_in certified) book.entries
  pub entries : s.entries ≡ length book.entries
  pub overruns : s.overruns ≡ overruns_in book.entries
  pub claims : BreaksClaimsAt (tables_in certified) (certificate_rows (certificate_in certified)).ages (events book.entries) s.claims

-- some seat's new receipts were not what its actor was to make
pub record WentAstray (t : TableRows) (s : ScriptView) : Type 0 where
  pub wires : List WireView
  pub wires' : List WireView
  pub routers : List SeatView
  pub routers' : List SeatView
  pub outputs : List SeatView
  pub outputs' : List SeatView
  pub clock : Option SeatView
  pub clock' : Option SeatView
  pub astray : ¬ AllPlayed t s wires wires' routers routers' outputs outputs' clock clock'

-- a book of the hub did not close over some seats
pub record DidNotClose (certified : Certified) : Type 0 where
  pub book : BookView
  pub seats : List SeatView
  pub fault : CloseFault
  pub of_hub : IsBookOf (Some certified) LONGEST_TRACE book
  pub fault_is : IsCloseFault (tables_in certified) book.entries seats fault

-- why the hub over certified tables is told to have refused: a call of it was refused, and not for memory, a seat's steps were not its own, or its book did not close
abbrev pub HasRefused : Certified → ℕ → Type 0
HasRefused certified ticks =
    ((fault : HubFault) × (fault ≢ Memory) × IsRefused (Some certified) LONGEST_TRACE fault)
    ⊎ (WentAstray (tables_in certified) (bench_script (tables_in certified) ticks) ⊎ DidNotClose certified)

-- what is printed then
abbrev pub hub_refused : Answer
hub_refused = one_line (codes "refused hub") Refused

-- ---- the answer

-- to certified tables: what was seen of the closed book, or that the hub refused
abbrev pub AnswersRun : Certified → ℕ → Bool → Answer → Type 0
AnswersRun certified ticks marks answer =
    ((answer ≡ hub_refused) × HasRefused certified ticks) ⊎ ((book : ClosedView) × (s : Seen) × IsSeen certified ticks book s × (answer ≡ answer_seen marks book s))

-- where this is the verdict on the certificate: of the tables that it certifies; where it is refused, as `check`
abbrev pub AnswersVerdict : TableRows → NamedRows → ℕ → Bool → Answer → Option CheckFault → Type 0
AnswersVerdict t claims ticks marks answer None =
    (certified : Certified) × (tables_in certified ≡ t) × (named_rows (certificate_in certified) ≡ claims) × AnswersRun certified ticks marks answer
AnswersVerdict t claims ticks marks answer (Some fault) = answer ≡ answer_verdict t (Some fault)

-- to tables and a certificate
abbrev pub AnswersCertificate : ℕ → Bool → TableRows → NamedRows → Answer → Type 0
AnswersCertificate ticks marks t claims answer = AnswersVerdict t claims ticks marks answer (verdict_of t claims)

-- to the texts of both
abbrev pub AnswersBench : List ℕ → List ℕ → ℕ → Bool → Answer → Type 0
AnswersBench tables certificate ticks marks = AnswersTexts (AnswersCertificate ticks marks) tables certificate

-- What `bench` reports for so many ticks, with its marks or without, where its sources and its sink failed so often before and after it
abbrev pub ReportsBench : List ℕ → List ℕ → ℕ → Bool → Option (List ℕ) → Option (List ℕ) → ℕ → ℕ → ℕ → ℕ → Exit → Type 0
ReportsBench tables certificate ticks marks old new sources sources' sink sink' exit =
    Reported (WholeOrNone (AnswersBench tables certificate ticks marks) (is_answered exit)) old new sources sources' sink sink' exit
