-- How an engine is reported that judged before it wrote.
use Rattle.std.proofs.Common.{◌≡◌, ◌≢◌, ℕ, ◌+◌, ◌≤◌, ◌++◌, List, [], ◌∷◌, refl, sym, ◌∙◌, ap, subst, arith, Option, Some, None, IfErr, IfOk, IfSome, Result, Ok, Err, codes, inl, inr}
use Rattle.std.specs.Io.KnownBytes.{Appends}
use Rattle.dc_device.specs.Bytes.{AppendsFront, Writes}
use Rattle.dc_device.specs.Device.{failures_of}
use Rattle.dc_device.specs.States.{SinkState, SourceState}
use Rattle.dc_answer.specs.Answer.{Answer, Any, Raises, Reported, WholeOrNone}
use Rattle.dc_answer.specs.Exits.{exit_of, is_answered}
use Rattle.dc_answer.specs.Given.{failures}
use Rattle.dc_answer.specs.Judging.{Finishes, Keeps, Raised, ReportsJudged, ReportsSome, to_write}
use Rattle.dc_answer.specs.Threads.{ReportsThreads}
use Rattle.dc_answer.specs.declared.answer.Failure.{Failure}
use Rattle.dc_answer.specs.declared.answer.Failure.TheVariants.{Source, Sink, Memory as NoMemory}
use Rattle.dc_answer.specs.declared.exit.Exit.{Exit}
use Rattle.dc_answer.specs.declared.exit.Exit.TheVariants.{Failed}
use Rattle.dc_answer.specs.declared.exit.Outcome.{Outcome}
use Rattle.dc_answer.specs.declared.judge.Unjudged.{Unjudged}
use Rattle.dc_answer.specs.declared.judge.Unjudged.TheVariants.{Device, Memory, Threads}
use Rattle.dc_answer.specs.lemmas.Judgments.{reported_any, texts_reported}

-- ---- what was judged is what is written

module _ (Is : Answer → Type 0) (text : List ℕ) (a a' : ℕ) where
  handed : (judged : Result Outcome Unjudged) (w : Option (Result Outcome Failure)) → w ≡ to_write judged
      → IfSome w (λ written. Keeps Is text judged → Raised a a' judged → Keeps Is text written × Raises a a' written)
  handed (Ok outcome) w e = rw e (λ h r. (h, r))
  handed (Err Device) w e = rw e (λ h r. (tt, r))
  handed (Err Memory) w e = rw e (λ h r. (tt, r))
  handed (Err Threads) w e = rw e tt

  pub hand_on : (judged : Result Outcome Unjudged) (w : Option (Result Outcome Failure)) (written : Result Outcome Failure) → w ≡ to_write judged → w ≡ Some written
      → Keeps Is text judged → Raised a a' judged → Keeps Is text written × Raises a a' written
  hand_on judged w written e is h r = let f = handed judged w e in (rw is at f) h r

-- what is written tells of no failure of the sink
no_sink : (judged : Result Outcome Unjudged) (w : Option (Result Outcome Failure)) → w ≡ to_write judged → IfSome w (λ written. IfErr written (λ e. e ≢ Sink))
no_sink (Ok outcome) w e = rw e tt
no_sink (Err Device) w e = rw e (λ x. cc)
no_sink (Err Memory) w e = rw e (λ x. cc)
no_sink (Err Threads) w e = rw e tt

pub not_of_sink : (judged : Result Outcome Unjudged) (w : Option (Result Outcome Failure)) (written : Result Outcome Failure) → w ≡ to_write judged → w ≡ Some written
    → IfErr written (λ e. e ≢ Sink)
not_of_sink judged w written e is = let f = no_sink judged w e in rw is at f

-- nothing was judged where no thread could be started
pub none_started : (P : Type 0) (a a' : ℕ) (judged : Result Outcome Unjudged) (w : Option (Result Outcome Failure)) → w ≡ to_write judged → w ≡ None
    → IfErr judged (λ e. e ≡ Threads → P) → Raised a a' judged → P × (a' ≡ a)
none_started P a a' (Ok outcome) w e is h r = absurd (cc)
none_started P a a' (Err Device) w e is h r = absurd (cc)
none_started P a a' (Err Memory) w e is h r = absurd (cc)
none_started P a a' (Err Threads) w e is h r = (h refl, r)

-- ---- it is reported

module _ (Is : Answer → Type 0) (text : List ℕ) (sources sources' : List SourceState) (sink sink' : SinkState) where
  pub finished : (judged : Result Outcome Failure) (exit : Exit) → Finishes judged text sink sink' exit → Keeps Is text judged → Raises (failures sources) (failures sources') judged
      → Reported (WholeOrNone Is (is_answered exit)) sink.contents sink'.contents (failures sources) (failures sources') sink.failed sink'.failed exit
  finished judged exit f h r =
      texts_reported Is text sink.contents f.mid.contents sink'.contents judged f.ended (failures sources) (failures sources') sink.failed f.mid.failed sink'.failed exit
      h r f.ends f.same f.other f.more f.rise f.is f.reports

-- whatever the sources give
pub finished_any : (text : List ℕ) (sources sources' : List SourceState) (sink sink' : SinkState) (judged : Result Outcome Failure) (exit : Exit) → Finishes judged text sink sink' exit
    → Keeps Any text judged → Raises (failures sources) (failures sources') judged
    → Reported Any sink.contents sink'.contents (failures sources) (failures sources') sink.failed sink'.failed exit
finished_any text sources sources' sink sink' judged exit f h r =
    reported_any _ _ _ _ _ _ _ _ (finished Any text sources sources' sink sink' judged exit f h r)

-- where it has not failed, no source has
pub finished_quiet : (text : List ℕ) (a a' : ℕ) (sink sink' : SinkState) (judged : Result Outcome Failure) (exit : Exit) → Finishes judged text sink sink' exit → Raises a a' judged
    → exit ≢ Failed → a' ≡ a
finished_quiet text a a' sink sink' judged exit f r not = by f.ended f.same f.is where
  by : (ended : Result Outcome Failure) → IfOk ended (λ outcome. judged ≡ Ok outcome) → exit ≡ exit_of ended → a' ≡ a
  by (Ok outcome) same is = rw same at r
  by (Err failure) same is = absurd (not is)

-- ---- the line of a thread that could not be started
pub threads_written : {T F : Type 0} (old new : Option (List ℕ)) (waiting : List ℕ) (result : Result T F) (sink sink' : ℕ) (exit : Exit) → waiting ≡ []
    → Writes old new (waiting ++ (codes "failed threads" ++ 10 ∷ [])) result → sink' ≡ sink + failures_of result → exit ≡ Failed
    → (sources sources' : ℕ) → sources' ≡ sources → ReportsThreads old new sources sources' sink sink' exit
threads_written old new waiting (Ok x) sink sink' exit empty writes count is sources sources' same =
    let P : List ℕ → Type 0 = λ w. Appends old new (w ++ (codes "failed threads" ++ 10 ∷ [])) in
    record { failed = is; unfailed = same; whole = λ _. subst P empty writes; cut = λ more. absurd (omega arith) }
threads_written old new waiting (Err e) sink sink' exit empty writes count is sources sources' same =
    let P : List ℕ → Type 0 = λ w. AppendsFront old new (w ++ (codes "failed threads" ++ 10 ∷ [])) in
    record { failed = is; unfailed = same; whole = λ still. absurd (omega arith); cut = λ _. subst P empty writes }
