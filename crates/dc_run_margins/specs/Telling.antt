-- How a line that is no margin's is told: as it is, or as a JSON object of one key.
use Rattle.std.specs.Prelude.{◌≡◌, ℕ, Bool, true, false, List, [], ◌∷◌, ◌++◌, Result, Ok, Err, codes}
use Rattle.dc_answer.specs.Answer.{Answer, one_line}
use Rattle.dc_answer.specs.declared.exit.Outcome.{Outcome}
use Rattle.dc_answer.specs.declared.exit.Outcome.TheVariants.{Done, Refused, Unreadable}
use Rattle.dc_answer.specs.declared.judge.Unjudged.{Unjudged}
use Rattle.dc_answer.specs.declared.judge.Unjudged.TheVariants.{Memory}
use Rattle.dc_device.specs.Lines.{spelled}
use Rattle.dc_run_margins.specs.declared.telling.InTime.{InTime}
use Rattle.dc_run_margins.specs.declared.telling.LineKey.{LineKey}
use Rattle.dc_run_margins.specs.declared.telling.LineKey.TheVariants.{Verdict, Line}
use Rattle.dc_run_margins.specs.declared.telling.Telling.{Telling}

-- margins as lines, with what is told of time
abbrev pub in_lines : InTime → Telling
in_lines time = record { json = false; microseconds = time.microseconds; drift = time.drift }

-- ---- one line

-- what stands before it
abbrev pub opening : (json : Bool) → LineKey → List ℕ
opening false key = []
opening true Verdict = codes "{\"verdict\":\""
opening true Line = codes "{\"line\":\""

-- what stands behind it
abbrev pub closing : (json : Bool) → List ℕ
closing false = []
closing true = codes "\"}"

-- The line under its key. It is made of the words and codes of this program, of digits and of names, which have letters,
-- digits, `-` and `_` alone: so nothing in it is to be escaped.
abbrev pub told_as : (json : Bool) → LineKey → List ℕ → List ℕ
told_as json key line = opening json key ++ line ++ closing json

-- ---- an answer

-- to a text that can't be read, by its first fault
abbrev pub unreadable_told : (json : Bool) → List ℕ → Answer
unreadable_told json fault = one_line (told_as json Line (codes "unreadable " ++ fault)) Unreadable

-- what a plain answer is told as that ends so: what is said of a text that can't be read stands under its key
abbrev pub IsToldAs : (json : Bool) (plain answer : Answer) → Outcome → Type 0
IsToldAs json plain answer Done = answer ≡ plain
IsToldAs json plain answer Refused = answer ≡ plain
IsToldAs json plain answer Unreadable =
    (line : List ℕ) × (line ++ 10 ∷ [] ≡ spelled plain.lines) × (answer ≡ one_line (told_as json Line line) Unreadable)

-- an answer that some such answer is told as
abbrev pub AnswersTold : (json : Bool) → (Answer → Type 0) → Answer → Type 0
AnswersTold json Is answer = (plain : Answer) × Is plain × IsToldAs json plain answer plain.outcome

-- what is kept of what was judged, and how that ends then: where it was a text that can't be read, memory may be wanting
abbrev pub TellsJudged : (json : Bool) (old : List ℕ) → Result Outcome Unjudged → (new : List ℕ) → Result Outcome Unjudged → Type 0
TellsJudged json old (Ok Done) new result = (new ≡ old) × (result ≡ Ok Done)
TellsJudged json old (Ok Refused) new result = (new ≡ old) × (result ≡ Ok Refused)
TellsJudged json old (Ok Unreadable) new (Ok outcome) = (new ≡ told_as json Line old) × (outcome ≡ Unreadable)
TellsJudged json old (Ok Unreadable) new (Err e) = e ≡ Memory
TellsJudged json old (Err e) new result = result ≡ Err e
