-- What an engine has judged that reads all its texts before it writes.
use Rattle.std.specs.Prelude.{◌≡◌, ◌⊎◌, ℕ, ◌≢◌, ◌+◌, ◌<◌, ◌≤◌, IfErr, IfOk, List, [], ◌∷◌, ◌++◌, Option, Some, None, Result, Ok, Err}
use Rattle.dc_device.specs.Lines.{spelled}
use Rattle.dc_device.specs.States.{SinkState, SourceState}
use Rattle.dc_answer.specs.Answer.{Answer, Ends, LeavesSink, Reported, ReportsBy, WholeOrNone, judged_answer, sink_failures_of}
use Rattle.dc_answer.specs.Exits.{exit_of, is_answered}
use Rattle.dc_answer.specs.Given.{failures}
use Rattle.dc_answer.specs.Threads.{ReportsThreads}
use Rattle.dc_answer.specs.declared.answer.Failure.{Failure}
use Rattle.dc_answer.specs.declared.answer.Failure.TheVariants.{Source, Sink, Memory as NoMemory}
use Rattle.dc_answer.specs.declared.exit.Exit.{Exit}
use Rattle.dc_answer.specs.declared.exit.Outcome.{Outcome}
use Rattle.dc_answer.specs.declared.judge.Unjudged.{Unjudged}
use Rattle.dc_answer.specs.declared.judge.Unjudged.TheVariants.{Device, Memory, Threads}

-- The text and the outcome are those of an answer that is such, its lines parted by line feeds.
abbrev pub Says : (Answer → Type 0) → List ℕ → Outcome → Type 0
Says Is text outcome = (answer : Answer) × Is answer × (text ++ 10 ∷ [] ≡ spelled answer.lines) × (outcome ≡ answer.outcome)

-- they are, or nothing was judged
abbrev pub Keeps : {E : Type 0} → (Answer → Type 0) → List ℕ → Result Outcome E → Type 0
Keeps Is text (Ok outcome) = Says Is text outcome
Keeps Is text (Err e) = Unit {0}

-- how the failures of its sources rise: a result that tells of one has counted it
abbrev pub Raised : ℕ → ℕ → Result Outcome Unjudged → Type 0
Raised sources sources' (Ok outcome) = sources' ≡ sources
Raised sources sources' (Err Device) = sources < sources'
Raised sources sources' (Err Memory) = sources' ≡ sources
Raised sources sources' (Err Threads) = sources' ≡ sources

-- what is written of it; nothing is where no thread could be started
abbrev pub to_write : Result Outcome Unjudged → Option (Result Outcome Failure)
to_write (Ok outcome) = Some (Ok outcome)
to_write (Err Device) = Some (Err Source)
to_write (Err Memory) = Some (Err NoMemory)
to_write (Err Threads) = None

-- ---- what is reported

-- what was judged was written, as far as it went, and what failed was told
pub record Finishes (judged : Result Outcome Failure) (text : List ℕ) (sink sink' : SinkState) (exit : Exit) : Type 0 where
  pub ended : Result Outcome Failure
  pub mid : SinkState
  pub ends : Ends sink.contents [] mid.contents (judged_answer text judged) ended
  pub same : IfOk ended (λ outcome. judged ≡ Ok outcome)
  pub other : IfErr ended (λ e. e ≢ Sink → judged ≡ Err e)
  pub more : mid.failed ≡ sink.failed + sink_failures_of ended
  pub rise : mid.failed ≤ sink'.failed
  pub is : exit ≡ exit_of ended
  pub reports : ReportsBy ended mid.contents sink'.contents mid.failed sink'.failed exit

-- What a command reports of an answer that is such, by its sources and its sink before and after it; or that no thread could
-- be started, where it may.
abbrev pub ReportsSome : (Answer → Type 0) → Type 0 → List SourceState → List SourceState → SinkState → SinkState → Exit → Type 0
ReportsSome Is may_start sources sources' sink sink' exit =
    Reported Is sink.contents sink'.contents (failures sources) (failures sources') sink.failed sink'.failed exit
    ⊎ (may_start × ReportsThreads sink.contents sink'.contents (failures sources) (failures sources') sink.failed sink'.failed exit)

-- the same where the texts are known: where the answer is not whole, that or no line
abbrev pub ReportsJudged : (Answer → Type 0) → Type 0 → List SourceState → List SourceState → SinkState → SinkState → Exit → Type 0
ReportsJudged Is may_start sources sources' sink sink' exit = ReportsSome (WholeOrNone Is (is_answered exit)) may_start sources sources' sink sink' exit

-- how a command leaves its sink
abbrev pub Leaves : SinkState → SinkState → Type 0
Leaves sink sink' = LeavesSink sink.failed sink'.failed sink'.last_failed sink'.hidden
