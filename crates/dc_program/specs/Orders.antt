-- What an order names, and what its engine reports.
use Rattle.std.specs.Prelude.{◌≡◌, ◌⊎◌, ◌-◌, ◌+◌, ◌^◌, ◌<◌, ℕ, List, [], ◌∷◌, Bool, true, false, Option, Some, None}
use Rattle.dc_answer.specs.Answer.{Any, Reported, Reports}
use Rattle.dc_answer.specs.Threads.{ReportsThreads}
use Rattle.dc_answer.specs.declared.answer.Failure.TheVariants.{Source}
use Rattle.dc_answer.specs.declared.exit.Exit.{Exit}
use Rattle.dc_answer.specs.declared.exit.Exit.TheVariants.{Failed}
use Rattle.dc_command.specs.declared.asked.Order.{Order}
use Rattle.dc_capture.specs.declared.capture_lines.TheConstants.{CAPTURE_LIMIT}
use Rattle.dc_command.specs.declared.asked.Order.TheVariants.{Decode, Check, Find, Layout, Report, ReportObserved, Margins, Survey, Trace, Replay, Audit, Observe, Bench, Design, Explain, Network, ReportNetwork}
use Rattle.dc_device.specs.States.{AsksUpTo, SinkState, SourceState}
use Rattle.dc_program.specs.declared.world.Crew.{Crew}
use Rattle.dc_program.specs.declared.world.Crew.TheVariants.{Workers, Actors}
use Rattle.dc_run_audit.specs.Audit.{ReportsAudit}
use Rattle.dc_run.specs.Check.{ReportsCheck}
use Rattle.dc_run.specs.Decode.{decode_text}
use Rattle.dc_run.specs.Find.{ReportsFind}
use Rattle.dc_run.specs.Limits.{trace_limit}
use Rattle.dc_run.specs.Replay.{ReportsReplay}
use Rattle.dc_run_bench.specs.Bench.{ReportsBench}
use Rattle.dc_run_design.specs.Layout.{ReportsLayout}
use Rattle.dc_digest.specs.Digests.{ReportsDigests}
use Rattle.dc_run_explain.specs.Explain.{ReportsExplain}
use Rattle.dc_run_observe.specs.Answer.{ReportsObserve}
use Rattle.dc_run.specs.declared.limits.TheConstants.{LONG_TRACE_LIMIT}
use Rattle.dc_run_margins.specs.Margins.{ReportsMargins, ReportsLeast as ReportsMarginsLeast}
use Rattle.dc_run_report.specs.Paper.{ReportsPage, ReportsLeast as ReportsPageLeast, ReportsObserved as ReportsPageObserved}
use Rattle.dc_run_survey.specs.Answer.{ReportsSurvey}
use Rattle.dc_run_trace.specs.Answer.{ReportsTrace}

-- ---- what is asked of the world

-- the names of the files that an order names, in the order in which they are opened
abbrev pub files_of : Order → List (List ℕ)
files_of (Decode format) = []
files_of (Check tables certificate workers digest) = tables.now ∷ certificate.now ∷ []
files_of (Find tables) = tables.now ∷ []
files_of (Layout tables) = tables.now ∷ []
files_of (Report tables None drift) = tables.now ∷ []
files_of (Report tables (Some certificate) drift) = tables.now ∷ certificate.now ∷ []
files_of (ReportObserved tables certificate observed drift) = tables.now ∷ certificate.now ∷ observed.now ∷ []
files_of (Margins tables None microseconds drift json) = tables.now ∷ []
files_of (Margins tables (Some certificate) microseconds drift json) = tables.now ∷ certificate.now ∷ []
files_of (Survey tables) = tables.now ∷ []
files_of (Trace tables from) = tables.now ∷ []
files_of (Replay tables all long) = tables.now ∷ []
files_of (Audit tables certificate long) = tables.now ∷ certificate.now ∷ []
files_of (Observe tables certificate) = tables.now ∷ certificate.now ∷ []
files_of (Bench tables certificate ticks marks) = tables.now ∷ certificate.now ∷ []
files_of (Design inputs outputs tick headroom police certificate) = inputs.now ∷ outputs.now ∷ []
files_of (Explain code) = []
files_of (Network system workers) = system.now ∷ []
files_of (ReportNetwork system) = system.now ∷ []

-- as many workers as are said
abbrev pub workers_of : Option ℕ → Option Crew
workers_of None = None
workers_of (Some count) = Some (Workers count)

-- for whom threads are asked
abbrev pub crew_of : Order → Option Crew
crew_of (Check tables certificate workers digest) = workers_of workers
crew_of (Network system workers) = workers_of workers
crew_of (Bench tables certificate ticks marks) = Some Actors
crew_of _ = None

-- the most bytes that `decode` reads
abbrev pub stream_limit : ℕ
stream_limit = 2 ^ 63 - 1

-- how far standard input is asked; where an order does not read it, it is what it was
abbrev pub AsksInput : Order → SourceState → SourceState → Type 0
AsksInput (Decode format) input input' = AsksUpTo stream_limit input input'
AsksInput (Survey tables) input input' = AsksUpTo CAPTURE_LIMIT input input'
AsksInput (Trace tables from) input input' = AsksUpTo CAPTURE_LIMIT input input'
AsksInput (Replay tables all long) input input' = AsksUpTo (trace_limit long) input input'
AsksInput (Audit tables certificate long) input input' = AsksUpTo (trace_limit long) input input'
AsksInput (Observe tables certificate) input input' = AsksUpTo LONG_TRACE_LIMIT input input'
AsksInput _ input input' = input' ≡ input

-- how many calls of sources failed, where so many of the files' did: those of standard input are counted where it is read
abbrev pub sources_in : Order → ℕ → SourceState → ℕ
sources_in (Decode format) failed input = failed + input.failed
sources_in (Survey tables) failed input = failed + input.failed
sources_in (Trace tables from) failed input = failed + input.failed
sources_in (Replay tables all long) failed input = failed + input.failed
sources_in (Audit tables certificate long) failed input = failed + input.failed
sources_in (Observe tables certificate) failed input = failed + input.failed
sources_in _ failed input = failed

-- ---- what is reported

-- What the engine of an order reports of the texts that its files hold, in their order, and of standard input, with the
-- order's flags and numbers; so many calls of the files' sources failed in it. `design` makes a file too, and `network` and
-- `report --network` open files that a text names: these are told of apart.
abbrev pub ReportsOrder : Order → (List ℕ → Option (List ℕ)) → ℕ → SourceState → SourceState → SinkState → SinkState → Exit → Type 0
ReportsOrder (Decode format) holds failed input input' sink sink' exit =
    (text : List ℕ) → input.remaining ≡ Some text → Reports sink.contents sink'.contents Source (sink'.failed - sink.failed) (decode_text format text) exit
ReportsOrder (Check tables certificate None false) holds failed input input' sink sink' exit =
    (rows claims : List ℕ) → holds tables.now ≡ Some rows → holds certificate.now ≡ Some claims
    → ReportsCheck rows claims sink.contents sink'.contents 0 failed sink.failed sink'.failed exit
ReportsOrder (Check tables certificate None true) holds failed input input' sink sink' exit =
    (rows claims : List ℕ) → holds tables.now ≡ Some rows → holds certificate.now ≡ Some claims
    → ReportsDigests rows claims sink.contents sink'.contents 0 failed sink.failed sink'.failed exit
ReportsOrder (Check tables certificate (Some count) false) holds failed input input' sink sink' exit =
    (rows claims : List ℕ) → holds tables.now ≡ Some rows → holds certificate.now ≡ Some claims
    → ReportsCheck rows claims sink.contents sink'.contents 0 failed sink.failed sink'.failed exit
    ⊎ ReportsThreads sink.contents sink'.contents 0 failed sink.failed sink'.failed exit
ReportsOrder (Check tables certificate (Some count) true) holds failed input input' sink sink' exit =
    (rows claims : List ℕ) → holds tables.now ≡ Some rows → holds certificate.now ≡ Some claims
    → ReportsDigests rows claims sink.contents sink'.contents 0 failed sink.failed sink'.failed exit
    ⊎ ReportsThreads sink.contents sink'.contents 0 failed sink.failed sink'.failed exit
ReportsOrder (Find tables) holds failed input input' sink sink' exit =
    (rows : List ℕ) → holds tables.now ≡ Some rows → ReportsFind rows sink.contents sink'.contents 0 failed sink.failed sink'.failed exit
ReportsOrder (Layout tables) holds failed input input' sink sink' exit =
    (rows : List ℕ) → holds tables.now ≡ Some rows → ReportsLayout rows sink.contents sink'.contents 0 failed sink.failed sink'.failed exit
ReportsOrder (Report tables None drift) holds failed input input' sink sink' exit =
    (rows : List ℕ) → holds tables.now ≡ Some rows → ReportsPageLeast rows sink.contents sink'.contents 0 failed sink.failed sink'.failed exit
ReportsOrder (Report tables (Some certificate) drift) holds failed input input' sink sink' exit =
    (rows claims : List ℕ) → holds tables.now ≡ Some rows → holds certificate.now ≡ Some claims
    → ReportsPage rows claims sink.contents sink'.contents 0 failed sink.failed sink'.failed exit
ReportsOrder (ReportObserved tables certificate observed drift) holds failed input input' sink sink' exit =
    (rows claims lines : List ℕ) → holds tables.now ≡ Some rows → holds certificate.now ≡ Some claims → holds observed.now ≡ Some lines
    → ReportsPageObserved rows claims lines sink.contents sink'.contents 0 failed sink.failed sink'.failed exit
ReportsOrder (Margins tables None microseconds drift json) holds failed input input' sink sink' exit =
    (rows : List ℕ) → holds tables.now ≡ Some rows → ReportsMarginsLeast (record { json = json; microseconds = microseconds; drift = drift }) rows sink.contents sink'.contents 0 failed sink.failed sink'.failed exit
ReportsOrder (Margins tables (Some certificate) microseconds drift json) holds failed input input' sink sink' exit =
    (rows claims : List ℕ) → holds tables.now ≡ Some rows → holds certificate.now ≡ Some claims
    → ReportsMargins (record { json = json; microseconds = microseconds; drift = drift }) rows claims sink.contents sink'.contents 0 failed sink.failed sink'.failed exit
ReportsOrder (Survey tables) holds failed input input' sink sink' exit =
    (rows capture : List ℕ) → holds tables.now ≡ Some rows → input.remaining ≡ Some capture
    → ReportsSurvey rows capture sink.contents sink'.contents (0 + input.failed) (failed + input'.failed) sink.failed sink'.failed exit
ReportsOrder (Trace tables from) holds failed input input' sink sink' exit =
    (rows capture : List ℕ) → holds tables.now ≡ Some rows → input.remaining ≡ Some capture
    → ReportsTrace from rows capture sink.contents sink'.contents (0 + input.failed) (failed + input'.failed) sink.failed sink'.failed exit
ReportsOrder (Replay tables all long) holds failed input input' sink sink' exit =
    (rows trace : List ℕ) → holds tables.now ≡ Some rows → input.remaining ≡ Some trace
    → ReportsReplay (trace_limit long) all rows trace sink.contents sink'.contents (0 + input.failed) (failed + input'.failed) sink.failed sink'.failed exit
ReportsOrder (Audit tables certificate long) holds failed input input' sink sink' exit =
    (rows claims trace : List ℕ) → holds tables.now ≡ Some rows → holds certificate.now ≡ Some claims → input.remaining ≡ Some trace
    → ReportsAudit long rows claims trace sink.contents sink'.contents (0 + input.failed) (failed + input'.failed) sink.failed sink'.failed exit
ReportsOrder (Observe tables certificate) holds failed input input' sink sink' exit =
    (rows claims trace : List ℕ) → holds tables.now ≡ Some rows → holds certificate.now ≡ Some claims → input.remaining ≡ Some trace
    → ReportsObserve rows claims trace sink.contents sink'.contents (0 + input.failed) (failed + input'.failed) sink.failed sink'.failed exit
ReportsOrder (Bench tables certificate ticks marks) holds failed input input' sink sink' exit =
    (rows claims : List ℕ) → holds tables.now ≡ Some rows → holds certificate.now ≡ Some claims
    → ReportsBench rows claims ticks marks sink.contents sink'.contents 0 failed sink.failed sink'.failed exit
    ⊎ ReportsThreads sink.contents sink'.contents 0 failed sink.failed sink'.failed exit
ReportsOrder (Design inputs outputs tick headroom police certificate) holds failed input input' sink sink' exit = ⊥
ReportsOrder (Network system workers) holds failed input input' sink sink' exit = ⊥
ReportsOrder (ReportNetwork system) holds failed input input' sink sink' exit = ⊥
ReportsOrder (Explain code) holds failed input input' sink sink' exit = ReportsExplain sink.contents sink'.contents sink.failed sink'.failed exit

-- What it reports whatever the texts are: what is told to have failed has failed.
abbrev pub ReportsAny : Order → ℕ → SourceState → SourceState → SinkState → SinkState → Exit → Type 0
ReportsAny (Decode format) failed input input' sink sink' exit = exit ≡ Failed → input.failed + sink.failed < input'.failed + sink'.failed
ReportsAny (Check tables certificate (Some count) digest) failed input input' sink sink' exit =
    Reported Any sink.contents sink'.contents 0 failed sink.failed sink'.failed exit ⊎ ReportsThreads sink.contents sink'.contents 0 failed sink.failed sink'.failed exit
ReportsAny (Bench tables certificate ticks marks) failed input input' sink sink' exit =
    Reported Any sink.contents sink'.contents 0 failed sink.failed sink'.failed exit ⊎ ReportsThreads sink.contents sink'.contents 0 failed sink.failed sink'.failed exit
ReportsAny order failed input input' sink sink' exit =
    Reported Any sink.contents sink'.contents (sources_in order 0 input) (sources_in order failed input') sink.failed sink'.failed exit
