-- What a command writes: lines, and what it ends with; and what of it there is where a device fails.
use Rattle.std.specs.Prelude.{◌≡◌, ◌≢◌, ℕ, ◌-◌, ◌+◌, ◌<◌, ◌≤◌, ◌⊎◌, List, [], ◌∷◌, ◌++◌, take, Option, Result, Ok, Err, Bool, true, false, codes, decimal}
use Rattle.std.specs.Io.KnownBytes.{Appends}
use Rattle.dc_device.specs.Bytes.{AppendsFront}
use Rattle.dc_device.specs.Device.{IsSnapshot}
use Rattle.dc_device.specs.Lines.{Fills, spelled}
use Rattle.dc_answer.specs.Exits.{exit_with}
use Rattle.dc_answer.specs.declared.answer.Failure.{Failure}
use Rattle.dc_answer.specs.declared.answer.Failure.TheVariants.{Source, Sink, Memory}
use Rattle.dc_answer.specs.declared.exit.Exit.{Exit}
use Rattle.dc_answer.specs.declared.exit.Exit.TheVariants.{Failed}
use Rattle.dc_answer.specs.declared.exit.Outcome.{Outcome}
use Rattle.dc_answer.specs.declared.exit.Outcome.TheVariants.{Done, Unreadable}

-- the lines that are written, and what the command ends with
pub record Answer : Type 0 where
  pub lines : List (List ℕ)
  pub outcome : Outcome

-- lines before the others
abbrev pub after_all : List (List ℕ) → Answer → Answer
after_all lines rest = record { lines = lines ++ rest.lines; outcome = rest.outcome }

-- one line
abbrev pub one_line : List ℕ → Outcome → Answer
one_line line outcome = record { lines = line ∷ []; outcome = outcome }

-- the line of a fault of a text
abbrev pub fault_text : List ℕ → ℕ → List ℕ
fault_text code number = codes "unreadable " ++ code ++ codes " at line " ++ decimal number

-- the answer to a text with this fault in this line: one line, and unreadable
abbrev pub fault : List ℕ → ℕ → Answer
fault code number = one_line (fault_text code number) Unreadable

-- a text that can't be read, by its first fault
abbrev pub unreadable : List ℕ → Answer
unreadable fault = one_line (codes "unreadable " ++ fault) Unreadable

-- an answer without a line
abbrev pub nothing : Answer
nothing = record { lines = []; outcome = Done }

-- the line that tells what failed
abbrev pub failure_text : Failure → List ℕ
failure_text Source = codes "failed device"
failure_text Sink = codes "failed device"
failure_text Memory = codes "failed memory"

-- the answer that is to be written where an engine judged first: its line, or none
abbrev pub judged_answer : List ℕ → Result Outcome Failure → Answer
judged_answer line (Ok outcome) = one_line line outcome
judged_answer line (Err failure) = nothing

-- Until something fails: what is written after what waited, where the answer is known.
abbrev pub Ends : Option (List ℕ) → List ℕ → Option (List ℕ) → Answer → Result Outcome Failure → Type 0
Ends old waiting new answer (Ok outcome) = Appends old new (waiting ++ spelled answer.lines) × (outcome ≡ answer.outcome)
Ends old waiting new answer (Err Source) = (k : ℕ) × Appends old new (waiting ++ spelled (take k answer.lines))
Ends old waiting new answer (Err Memory) = (k : ℕ) × Appends old new (waiting ++ spelled (take k answer.lines))
Ends old waiting new answer (Err Sink) = AppendsFront old new (waiting ++ spelled answer.lines)

-- how often each has failed, by what failed
abbrev pub Causes : {T : Type 0} → ℕ → ℕ → ℕ → ℕ → Result T Failure → Type 0
Causes source source' sink sink' (Ok x) = (source' ≡ source) × (sink' ≡ sink)
Causes source source' sink sink' (Err Source) = (source' ≡ source + 1) × (sink' ≡ sink)
Causes source source' sink sink' (Err Sink) = (source' ≡ source) × (sink' ≡ sink + 1)
Causes source source' sink sink' (Err Memory) = (source' ≡ source) × (sink' ≡ sink)

-- What waited was pushed, and then the source was asked: these bytes came, or it was at its end.
abbrev pub Asks : Option (List ℕ) → Option (List ℕ) → List ℕ → Option (List ℕ) → Option (List ℕ) → List ℕ → Result Bool Failure → Type 0
Asks source source' bytes sink sink' waiting (Ok more) = Appends sink sink' waiting × Fills {E = Failure} source source' bytes (Ok more)
Asks source source' bytes sink sink' waiting (Err Source) = Appends sink sink' waiting
Asks source source' bytes sink sink' waiting (Err Sink) = AppendsFront sink sink' waiting
Asks source source' bytes sink sink' waiting (Err Memory) = ⊥

-- whole lines of a front of the answer, and then the line of what failed
abbrev pub cut_short : Failure → ℕ → Answer → List (List ℕ)
cut_short failure k answer = take k answer.lines ++ failure_text failure ∷ []

-- What a command reports, where this failed, if its exit says so, and its sink so often in it: the whole answer with its
-- exit; or whole lines of a front of it and then the failure's line; or, where a push failed, a front of one of these two.
pub record Reports (old new : Option (List ℕ)) (failure : Failure) (sink_failures : ℕ) (answer : Answer) (exit : Exit) : Type 0 where
  pub done : exit ≢ Failed → Appends old new (spelled answer.lines) × (exit ≡ exit_with answer.outcome)
  pub cut : exit ≡ Failed → sink_failures ≡ 0 → (k : ℕ) × Appends old new (spelled (cut_short failure k answer))
  pub sink_failed : exit ≡ Failed → 0 < sink_failures
      → AppendsFront old new (spelled answer.lines) ⊎ ((k : ℕ) × AppendsFront old new (spelled (cut_short failure k answer)))

-- what failed, where something did
abbrev pub failed_by : Result Outcome Failure → Failure
failed_by (Ok outcome) = Sink
failed_by (Err failure) = failure

-- how many failures of the sink a result counts
abbrev pub sink_failures_of : Result Outcome Failure → ℕ
sink_failures_of (Ok outcome) = 0
sink_failures_of (Err Source) = 0
sink_failures_of (Err Sink) = 1
sink_failures_of (Err Memory) = 0

-- How an engine that ended so is reported, whatever it answers, where its sink had failed so often before and after that
abbrev pub ReportsBy : Result Outcome Failure → Option (List ℕ) → Option (List ℕ) → ℕ → ℕ → Exit → Type 0
ReportsBy ended mid new sink sink' exit = (old : Option (List ℕ)) (answer : Answer) (before : ℕ)
    → sink ≡ before + sink_failures_of ended → Ends old [] mid answer ended
    → Reports old new (failed_by ended) (sink' - before) answer exit

-- how a source's failures rise: a result that tells of one has counted it
abbrev pub Raises : ℕ → ℕ → Result Outcome Failure → Type 0
Raises source source' (Ok outcome) = source' ≡ source
Raises source source' (Err Source) = source < source'
Raises source source' (Err Sink) = source ≤ source'
Raises source source' (Err Memory) = source' ≡ source

-- A failed device has been counted, of the sources or as the sink; where memory was refused, no source has failed.
abbrev pub IsCounted : Failure → ℕ → ℕ → ℕ → ℕ → Type 0
IsCounted Source sources sources' sink sink' = sources < sources'
IsCounted Sink sources sources' sink sink' = sink < sink'
IsCounted Memory sources sources' sink sink' = sources' ≡ sources

-- whatever the sources give: what is written, until something fails, is that of some answer
abbrev pub EndsSome : Option (List ℕ) → Option (List ℕ) → Result Outcome Failure → Type 0
EndsSome old new result = (answer : Answer) × Ends old [] new answer result

-- What a command reports of an answer that is such, where its sources and its sink failed so often before and after it:
-- what it tells to have failed has failed, and where memory was refused, no line stands before that.
pub record Reported (Is : Answer → Type 0) (old new : Option (List ℕ)) (sources sources' sink sink' : ℕ) (exit : Exit) : Type 0 where
  pub answer : Answer
  pub failure : Failure
  pub is : Is answer
  pub reports : Reports old new failure (sink' - sink) answer exit
  pub counted : exit ≡ Failed → IsCounted failure sources sources' sink sink'
  pub memory : exit ≡ Failed → failure ≡ Memory → answer.lines ≡ []

-- any answer
abbrev pub Any : Answer → Type 0
Any answer = Unit {0}

-- What a command answers that judges before it writes: where it is whole, an answer that is such, else that or no line.
abbrev pub WholeOrNone : (Answer → Type 0) → Bool → Answer → Type 0
WholeOrNone Is true answer = Is answer
WholeOrNone Is false answer = Is answer ⊎ (answer.lines ≡ [])

-- After calls of a sink: where the engine got to its end, nothing is hidden; where the sink failed, its last call did.
abbrev pub SettlesBy : {T : Type 0} → Result T Failure → Bool → Bool → Type 0
SettlesBy (Ok x) last_failed hidden = hidden ≡ false
SettlesBy (Err Source) last_failed hidden = Unit {0}
SettlesBy (Err Sink) last_failed hidden = last_failed ≡ true
SettlesBy (Err Memory) last_failed hidden = Unit {0}

-- How a command leaves its sink: everyone sees all that it took; or one call failed, and it was the last.
pub record LeavesSink (failed failed' : ℕ) (last_failed hidden : Bool) : Type 0 where
  pub seen : failed' ≡ failed → hidden ≡ false
  pub last : failed' ≢ failed → (failed' ≡ failed + 1) × (last_failed ≡ true)

-- What everyone saw when a source was asked is all that the sink holds; where the sink failed, none was asked.
abbrev pub SeesAll : Option (List ℕ) → Option (List ℕ) → Result Bool Failure → Type 0
SeesAll contents answered (Ok more) = IsSnapshot contents answered
SeesAll contents answered (Err Source) = IsSnapshot contents answered
SeesAll contents answered (Err Sink) = Unit {0}
SeesAll contents answered (Err Memory) = Unit {0}

-- how many pulls gave no byte, where a source was asked for more
abbrev pub dry_in : Result Bool Failure → ℕ
dry_in (Ok true) = 0
dry_in (Ok false) = 1
dry_in (Err Source) = 1
dry_in (Err Sink) = 0
dry_in (Err Memory) = 0
