-- How a capture is read: what a reader holds, and what it has still to tell.
use Rattle.std.specs.Prelude.{◌≡◌, ℕ, ◌+◌, ◌^◌, ◌<◌, ◌≤◌, ◌⊎◌, List, [], ◌∷◌, ◌++◌, length, Option, Some, None, option_map, Result, Ok, Err}
use Rattle.std.specs.Io.KnownBytes.{prepend_known}
use Rattle.dc_device.specs.Lines.{Held, NoFeed, ReadsOn, lines_of}
use Rattle.dc_device.specs.declared.reader.LineEnd.TheVariants.{Long, Whole}
use Rattle.dc_device.specs.declared.reader.TheConstants.{LINE_LIMIT}
use Rattle.dc_tables.specs.TableRows.{TableRows}
use Rattle.dc_capture.specs.CaptureText.{Capture, capture_lines, line_word, word_in_front}
use Rattle.dc_capture.specs.declared.fault.CaptureFault.{CaptureFault}
use Rattle.dc_capture.specs.declared.fault.CaptureRule.{CaptureRule}
use Rattle.dc_capture.specs.declared.fault.CaptureRule.TheVariants.{LineTooLong, LineNotEnded}
use Rattle.dc_capture.specs.declared.fault.CaptureStop.{CaptureStop}
use Rattle.dc_capture.specs.declared.fault.CaptureStop.TheVariants.{End, Fault, Broken}
use Rattle.dc_capture.specs.declared.line.CapturedWord.{CapturedWord}
use Rattle.dc_capture.specs.declared.time.TheConstants.{LAST_TIME}

-- The lines of a capture, as far as they were pulled: the bytes read of the running line, which has this number; the
-- bytes held after them; how many more bytes the text may have after the running line's; the last time; and why the reader stopped.
pub record Reading : Type 0 where
  pub tables : TableRows
  pub line : List ℕ
  pub held : List ℕ
  pub room : ℕ
  pub number : ℕ
  pub latest : ℕ
  pub stopped : Option CaptureStop

-- nothing read yet of a text of at most so many bytes, in which a time before this one falls
abbrev pub at_start_from : TableRows → (limit from : ℕ) → Reading
at_start_from t limit from = record { tables = t; line = []; held = []; room = limit; number = 1; latest = from; stopped = None }

-- the same where each time may be first
abbrev pub at_start : TableRows → ℕ → Reading
at_start t limit = at_start_from t limit 0

-- what holds between the parts of a reader that has not stopped: the running line has no line feed yet, and its number can be counted on
abbrev pub Fits : Option CaptureStop → List ℕ → ℕ → ℕ → Type 0
Fits None line room number = NoFeed line × (number + (room + length line) < 2 ^ 64)
Fits (Some stop) line room number = Unit {0}

-- a capture of no more words
abbrev pub no_more : Option CaptureFault → Capture
no_more fault = record { words = []; fault = fault }

-- the capture of a text from a line of this number on, where the last time was this
abbrev pub capture_from : TableRows → (room number latest : ℕ) → List ℕ → Capture
capture_from t room number latest text = capture_lines t room number latest (lines_of text).0 (lines_of text).1

-- the capture that is still to tell, by why the reader stopped: nothing is lost where the source failed
abbrev pub reported_from : Option CaptureStop → TableRows → (room number latest : ℕ) → List ℕ → Capture
reported_from None t room number latest text = capture_from t room number latest text
reported_from (Some End) t room number latest text = no_more None
reported_from (Some (Fault f)) t room number latest text = no_more (Some f)
reported_from (Some Broken) t room number latest text = capture_from t room number latest text

-- the capture that is still to tell, where the bytes are known that the source has still to give
abbrev pub ahead : Reading → Option (List ℕ) → Option Capture
ahead r coming = option_map (λ text. reported_from r.stopped r.tables (r.room + length r.line) r.number r.latest text) (prepend_known (r.line ++ r.held) coming)

-- the capture ahead is as it was, where it was known
abbrev pub Stays : Option Capture → Option Capture → Type 0
Stays None new = Unit {0}
Stays (Some c) new = new ≡ Some c

-- the capture ahead began with this word, which was reported
abbrev pub TellsWord : Option Capture → Option Capture → CapturedWord → Type 0
TellsWord None new x = Unit {0}
TellsWord (Some c) new x = (rest : Capture) × (new ≡ Some rest) × (c ≡ word_in_front x rest)

-- there was no more word ahead, and the fault was this, if any
abbrev pub IsOver : Option Capture → Option CaptureFault → Type 0
IsOver None fault = Unit {0}
IsOver (Some c) fault = c ≡ no_more fault

-- what a reader tells of the capture ahead: its first word, its end, its fault, or that the source failed
abbrev pub Tells : Option Capture → Option Capture → Result CapturedWord CaptureStop → Type 0
Tells old new (Ok x) = TellsWord old new x
Tells old new (Err End) = IsOver old None
Tells old new (Err (Fault f)) = IsOver old (Some f)
Tells old new (Err Broken) = Stays old new

-- all that was held belongs to the running line, which goes on
abbrev pub NeedsMore : Reading → Reading → Type 0
NeedsMore old new = (old.stopped ≡ None) × (new.stopped ≡ None) × (new.held ≡ []) × (length old.held + new.room ≡ old.room) × (new.latest ≡ old.latest)

-- What the next line says, with the bytes of it that were read before and those that are held: it goes on after them
-- (None); it is past a limit; or it is whole, and nothing is read yet of the line after it.
abbrev pub ReadsNext : TableRows → (latest : ℕ) → Held → Held → List ℕ → List ℕ → Option (Result CapturedWord CaptureRule) → Type 0
ReadsNext t latest old new line line' None = ReadsOn old new line line' None
ReadsNext t latest old new line line' (Some read) =
    (ReadsOn old new line line' (Some Long) × (read ≡ Err LineTooLong))
    ⊎ ((whole : List ℕ) × ReadsOn old new line whole (Some Whole) × (length whole ≤ LINE_LIMIT) × (read ≡ line_word t latest whole) × (line' ≡ []))

-- a word of a bus that is there, of a time that is not before the last one
pub record IsNext (t : TableRows) (latest : ℕ) (x : CapturedWord) : Type 0 where
  pub bus : x.bus < length t.buses
  pub after : latest ≤ x.time
  pub small : x.time ≤ LAST_TIME

-- what a line tells: its word or its fault
abbrev pub IsOfLine : Result CapturedWord CaptureStop → Type 0
IsOfLine (Ok x) = Unit {0}
IsOfLine (Err End) = ⊥
IsOfLine (Err (Fault f)) = Unit {0}
IsOfLine (Err Broken) = ⊥

-- why a reader stopped that reported this
abbrev pub stop_of : Result CapturedWord CaptureStop → Option CaptureStop
stop_of (Ok x) = None
stop_of (Err stop) = Some stop

-- why a reader stops where the text ends after these bytes of a line
abbrev pub stop_behind : ℕ → List ℕ → CaptureStop
stop_behind number [] = End
stop_behind number (c ∷ cs) = Fault (record { rule = LineNotEnded; line = number })

-- why a reader stops that asked for more behind these bytes of a line, if it does: the text ended there, or the source failed
abbrev pub StopsBehind : ℕ → List ℕ → Option CaptureStop → Type 0
StopsBehind number line None = Unit {0}
StopsBehind number line (Some End) = End ≡ stop_behind number line
StopsBehind number line (Some (Fault f)) = Fault f ≡ stop_behind number line
StopsBehind number line (Some Broken) = Unit {0}

-- how many failures of the source a reader counts that stopped so
abbrev pub failures_at : Option CaptureStop → ℕ
failures_at None = 0
failures_at (Some End) = 0
failures_at (Some (Fault f)) = 0
failures_at (Some Broken) = 1

-- whether a reader that has not stopped is to ask next
abbrev pub waits : List ℕ → ℕ
waits [] = 1
waits (b ∷ bs) = 0

-- how often a reader may still pull: once for each byte that the text may still have, and once more at its end
abbrev pub pulls_left : Option CaptureStop → ℕ → List ℕ → ℕ
pulls_left None room held = room + waits held
pulls_left (Some stop) room held = 0

-- how many pulls may still give no byte
abbrev pub dry_left : Option CaptureStop → ℕ
dry_left None = 1
dry_left (Some stop) = 0

-- A source was pulled no more often than the reader has less to pull, and where a pull gave no byte the reader has stopped.
abbrev pub AsksFor : Reading → Reading → ℕ → ℕ → ℕ → ℕ → Type 0
AsksFor old new asked asked' dry dry' =
    (asked' + pulls_left new.stopped new.room new.held ≤ asked + pulls_left old.stopped old.room old.held)
    × (dry' + dry_left new.stopped ≤ dry + dry_left old.stopped)
