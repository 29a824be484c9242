-- What the text of a capture says: the words of its lines, before its first faulty line.
use Rattle.std.specs.Prelude.{ℕ, ◌+◌, ◌-◌, nat_lt, if◌then◌else◌, Option, Some, None, Result, Ok, Err, List, [], ◌∷◌, length}
use Rattle.dc_device.specs.Lines.{lines_of}
use Rattle.dc_tables.specs.TableRows.{TableRows}
use Rattle.dc_event.specs.TraceText.{fields_of, number_named, too_long}
use Rattle.dc_event.specs.WordText.{word_of}
use Rattle.dc_capture.specs.TimeText.{time_of}
use Rattle.dc_capture.specs.declared.fault.CaptureFault.{CaptureFault}
use Rattle.dc_capture.specs.declared.fault.CaptureRule.{CaptureRule}
use Rattle.dc_capture.specs.declared.fault.CaptureRule.TheVariants.{LineTooLong, LineNotEnded, FieldCountWrong, NotATime, NameUnknown, NotAWord, TimeFalls}
use Rattle.dc_capture.specs.declared.line.CapturedWord.{CapturedWord}

-- ---- a line

-- what a time, a bus and a word tell, judged in this order; and the time is not before the last one
abbrev pub judged : (latest : ℕ) → (time bus word : Option ℕ) → Result CapturedWord CaptureRule
judged latest None bus word = Err NotATime
judged latest (Some k) None word = Err NameUnknown
judged latest (Some k) (Some b) None = Err NotAWord
judged latest (Some k) (Some b) (Some w) = if nat_lt k latest then Err TimeFalls else Ok (record { time = k; bus = b; word = w })

-- three fields: a time, the name of a bus and a word
abbrev pub fields_word : TableRows → (latest : ℕ) → List (List ℕ) → Result CapturedWord CaptureRule
fields_word t latest [] = Err FieldCountWrong
fields_word t latest (time ∷ []) = Err FieldCountWrong
fields_word t latest (time ∷ bus ∷ []) = Err FieldCountWrong
fields_word t latest (time ∷ bus ∷ word ∷ []) = judged latest (time_of time) (number_named t.names.buses bus) (word_of word)
fields_word t latest (time ∷ bus ∷ word ∷ more ∷ rest) = Err FieldCountWrong

-- the word of a whole line within its limit, where the last time was this, or the rule that it breaks
unfoldable pub line_word : TableRows → (latest : ℕ) → List ℕ → Result CapturedWord CaptureRule
line_word t latest line = fields_word t latest (fields_of line)

-- ---- a text

-- the words before the first fault, each as (time, (bus, word)), and that fault with its line, where there is one
pub record Capture : Type 0 where
  pub words : List (ℕ × (ℕ × ℕ))
  pub fault : Option CaptureFault

-- a capture that ends with this fault
abbrev pub faulty : CaptureRule → ℕ → Capture
faulty rule number = record { words = []; fault = Some (record { rule = rule; line = number }) }

-- a word in front
abbrev pub word_in_front : CapturedWord → Capture → Capture
word_in_front x rest = record { words = (x.time, (x.bus, x.word)) ∷ rest.words; fault = rest.fault }

-- a word in front, or the fault of its line
abbrev pub in_front : ℕ → Result CapturedWord CaptureRule → Capture → Capture
in_front number (Ok x) rest = word_in_front x rest
in_front number (Err rule) rest = faulty rule number

-- the last time, after a line
abbrev pub latest_after : ℕ → Result CapturedWord CaptureRule → ℕ
latest_after latest (Ok x) = x.time
latest_after latest (Err rule) = latest

-- where the text ends after these bytes of a line
abbrev pub ended_by : ℕ → List ℕ → Capture
ended_by number [] = record { words = []; fault = None }
ended_by number (c ∷ cs) = faulty LineNotEnded number

-- the capture of lines from a number on and of what stands after them, where the last time was this and the text may have so many bytes from there on
abbrev pub capture_lines : TableRows → (room number latest : ℕ) → List (List ℕ) → List ℕ → Capture
capture_lines t room number latest [] rest = if too_long room (length rest) (length rest) then faulty LineTooLong number else ended_by number rest
capture_lines t room number latest (l ∷ ls) rest =
    if too_long room (length l) (length l + 1) then faulty LineTooLong number
    else in_front number (line_word t latest l) (capture_lines t (room - (length l + 1)) (number + 1) (latest_after latest (line_word t latest l)) ls rest)

-- the capture that a text of at most so many bytes says; lines are counted from 1
unfoldable pub capture_of : TableRows → ℕ → List ℕ → Capture
capture_of t limit text = capture_lines t limit 1 0 (lines_of text).0 (lines_of text).1
