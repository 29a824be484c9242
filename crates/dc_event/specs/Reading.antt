-- How a trace is read: what a reader holds, and what it has still to tell.
use Rattle.std.specs.Prelude.{◌≡◌, ℕ, ◌+◌, List, [], ◌∷◌, ◌++◌, length, Option, Some, None, option_map, Result, Ok, Err, ◌≤◌, ◌⊎◌}
use Rattle.std.specs.Io.KnownBytes.{prepend_known}
use Rattle.dc_device.specs.Lines.{Held, ReadsOn, lines_of}
use Rattle.dc_device.specs.declared.reader.LineEnd.TheVariants.{Long, Whole}
use Rattle.dc_tables.specs.TableRows.{TableRows}
use Rattle.dc_event.specs.TraceText.{Trace, line_event, trace_lines}
use Rattle.dc_event.specs.declared.event.Event.{Event}
use Rattle.dc_event.specs.declared.trace.LineRule.{LineRule}
use Rattle.dc_event.specs.declared.trace.LineRule.TheVariants.{LineTooLong, LineNotEnded}
use Rattle.dc_event.specs.declared.trace.TraceFault.{TraceFault}
use Rattle.dc_event.specs.declared.trace.TraceStop.{TraceStop}
use Rattle.dc_event.specs.declared.trace.TraceStop.TheVariants.{End, Fault, Broken}
use Rattle.dc_device.specs.declared.reader.TheConstants.{LINE_LIMIT}

-- The lines of a trace, as far as they were pulled: the bytes read of the running line, which has this number; the
-- bytes held after them; how many more bytes the text may have after the running line's; and why the reader stopped.
pub record Reading : Type 0 where
  pub tables : TableRows
  pub line : List ℕ
  pub held : List ℕ
  pub room : ℕ
  pub number : ℕ
  pub stopped : Option TraceStop

-- nothing read yet of a text of at most so many bytes
abbrev pub at_start : TableRows → ℕ → Reading
at_start t limit = record { tables = t; line = []; held = []; room = limit; number = 1; stopped = None }

-- a trace of no more events
abbrev pub no_more : Option TraceFault → Trace
no_more fault = record { events = []; fault = fault }

-- a trace with an event in front
abbrev pub event_in_front : Event → Trace → Trace
event_in_front e rest = record { events = e ∷ rest.events; fault = rest.fault }

-- the trace of a text from a line of this number on
abbrev pub trace_from : TableRows → ℕ → ℕ → List ℕ → Trace
trace_from t room number text = trace_lines t room number (lines_of text).0 (lines_of text).1

-- the trace that is still to tell, by why the reader stopped: nothing is lost where the source failed
abbrev pub reported_from : Option TraceStop → TableRows → ℕ → ℕ → List ℕ → Trace
reported_from None t room number text = trace_from t room number text
reported_from (Some End) t room number text = no_more None
reported_from (Some (Fault f)) t room number text = no_more (Some f)
reported_from (Some Broken) t room number text = trace_from t room number text

-- the trace that is still to tell, where the bytes are known that the source has still to give
abbrev pub ahead : Reading → Option (List ℕ) → Option Trace
ahead r coming = option_map (λ text. reported_from r.stopped r.tables (r.room + length r.line) r.number text) (prepend_known (r.line ++ r.held) coming)

-- the trace ahead is as it was, where it was known
abbrev pub Stays : Option Trace → Option Trace → Type 0
Stays None new = Unit {0}
Stays (Some t) new = new ≡ Some t

-- the trace ahead began with this event, which was reported
abbrev pub TellsEvent : Option Trace → Option Trace → Event → Type 0
TellsEvent None new e = Unit {0}
TellsEvent (Some t) new e = (rest : Trace) × (new ≡ Some rest) × (t ≡ event_in_front e rest)

-- there was no more event ahead, and the fault was this, if any
abbrev pub IsOver : Option Trace → Option TraceFault → Type 0
IsOver None fault = Unit {0}
IsOver (Some t) fault = t ≡ no_more fault

-- what a reader tells of the trace ahead: its first event, its end, its fault, or that the source failed
abbrev pub Tells : Option Trace → Option Trace → Result Event TraceStop → Type 0
Tells old new (Ok e) = TellsEvent old new e
Tells old new (Err End) = IsOver old None
Tells old new (Err (Fault f)) = IsOver old (Some f)
Tells old new (Err Broken) = Stays old new

-- all that was held belongs to the running line, which goes on
abbrev pub NeedsMore : Reading → Reading → Type 0
NeedsMore old new = (old.stopped ≡ None) × (new.stopped ≡ None) × (new.held ≡ []) × (length old.held + new.room ≡ old.room)

-- What the next line says, with the bytes of it that were read before and those that are held: it goes on after them
-- (None); it is past a limit; or it is whole, and nothing is read yet of the line after it.
abbrev pub ReadsNext : TableRows → Held → Held → List ℕ → List ℕ → Option (Result Event LineRule) → Type 0
ReadsNext t old new line line' None = ReadsOn old new line line' None
ReadsNext t old new line line' (Some read) =
    (ReadsOn old new line line' (Some Long) × (read ≡ Err LineTooLong))
    ⊎ ((whole : List ℕ) × ReadsOn old new line whole (Some Whole) × (length whole ≤ LINE_LIMIT) × (read ≡ line_event t whole) × (line' ≡ []))

-- what a line tells: its event or its fault
abbrev pub IsOfLine : Result Event TraceStop → Type 0
IsOfLine (Ok e) = Unit {0}
IsOfLine (Err End) = ⊥
IsOfLine (Err (Fault f)) = Unit {0}
IsOfLine (Err Broken) = ⊥

-- why a reader stopped that reported this
abbrev pub stop_of : Result Event TraceStop → Option TraceStop
stop_of (Ok e) = None
stop_of (Err stop) = Some stop

-- why a reader stops where the text ends after these bytes of a line
abbrev pub stop_behind : ℕ → List ℕ → TraceStop
stop_behind number [] = End
stop_behind number (c ∷ cs) = Fault (record { rule = LineNotEnded; line = number })

-- why a reader stops that asked for more behind these bytes of a line, if it does: the text ended there, or the source failed
abbrev pub StopsBehind : ℕ → List ℕ → Option TraceStop → Type 0
StopsBehind number line None = Unit {0}
StopsBehind number line (Some End) = End ≡ stop_behind number line
StopsBehind number line (Some (Fault f)) = Fault f ≡ stop_behind number line
StopsBehind number line (Some Broken) = Unit {0}

-- how many failures of the source a reader counts that stopped so
abbrev pub failures_at : Option TraceStop → ℕ
failures_at None = 0
failures_at (Some End) = 0
failures_at (Some (Fault f)) = 0
failures_at (Some Broken) = 1

-- a reader and its source: what the source has still to give, and how often it has failed, was pulled, and gave no byte
pub record Reader : Type 0 where
  pub lines : Reading
  pub coming : Option (List ℕ)
  pub failed : ℕ
  pub asked : ℕ
  pub dry : ℕ

-- the trace that a reader has still to tell
abbrev pub left : Reader → Option Trace
left r = ahead r.lines r.coming

-- how many failures of its source a reader counts in a call: none where it had stopped before
abbrev pub new_failures : Option TraceStop → Option TraceStop → ℕ
new_failures None new = failures_at new
new_failures (Some stop) new = 0

-- whether a reader that has not stopped is to ask next
abbrev pub waits : List ℕ → ℕ
waits [] = 1
waits (b ∷ bs) = 0

-- how often a reader may still pull: once for each byte that the text may still have, and once more at its end
abbrev pub pulls_left : Option TraceStop → ℕ → List ℕ → ℕ
pulls_left None room held = room + waits held
pulls_left (Some stop) room held = 0

-- how many pulls may still give no byte
abbrev pub dry_left : Option TraceStop → ℕ
dry_left None = 1
dry_left (Some stop) = 0

-- A source was pulled no more often than the reader has less to pull, and where a pull gave no byte the reader has stopped.
abbrev pub AsksFor : Reading → Reading → ℕ → ℕ → ℕ → ℕ → Type 0
AsksFor old new asked asked' dry dry' =
    (asked' + pulls_left new.stopped new.room new.held ≤ asked + pulls_left old.stopped old.room old.held)
    × (dry' + dry_left new.stopped ≤ dry + dry_left old.stopped)
