-- What each step of a reader does to the trace ahead.
use Rattle.std.proofs.Common.{◌≡◌, ◌≢◌, ℕ, ◌+◌, ◌-◌, ◌^◌, ◌<◌, ◌≤◌, List, [], ◌∷◌, ◌++◌, length, length-append, add-zero, refl, sym, ◌∙◌, ap, subst, append_assoc, append-nil, arith, ◌⊎◌, inl, inr, Option, Some, None, Result, Ok, Err, drop}
use Rattle.std.proofs.Math.Seq.{drop-append-add}
use Rattle.std.specs.Io.KnownBytes.{IsAtEnd, Keeps}
use Rattle.dc_device.specs.Lines.{Held, HoldsLine, NoFeed, ReadsOn}
use Rattle.dc_device.specs.declared.reader.LineEnd.TheVariants.{Long, Whole}
use Rattle.dc_device.specs.lemmas.LineLemmas.{NoFeed-append}
use Rattle.dc_tables.specs.TableRows.{TableRows}
use Rattle.dc_event.specs.TraceText.{Trace, ended_by, in_front, line_event}
use Rattle.dc_event.specs.Ahead.{HoldsEvent}
use Rattle.dc_event.specs.ReadingFits.{Fits}
use Rattle.dc_event.specs.Reading.{IsOver, Reading, ReadsNext, Stays, StopsBehind, Tells, TellsEvent, ahead, no_more, stop_behind, reported_from, trace_from}
use Rattle.dc_event.specs.declared.event.Event.{Event}
use Rattle.dc_event.specs.declared.trace.LineRule.{LineRule}
use Rattle.dc_event.specs.declared.trace.LineRule.TheVariants.{LineTooLong}
use Rattle.dc_event.specs.declared.trace.TraceStop.{TraceStop}
use Rattle.dc_event.specs.declared.trace.TraceStop.TheVariants.{End, Fault, Broken}
use Rattle.dc_event.proofs.TraceAnswers.{trace_cut, trace_long, trace_whole}

split_rest : (line front back xs : List ℕ) (b : ℕ) → (line ++ (front ++ b ∷ back)) ++ xs ≡ (line ++ front) ++ b ∷ (back ++ xs)
split_rest line front back xs b = simp append_assoc

past_limit : (line line' front : List ℕ) (room b : ℕ) → line' ≡ line ++ front → (length front ≡ room) ⊎ ((b ≢ 10) × (length line' ≡ 64))
    → (length (line ++ front) ≡ room + length line) ⊎ ((b ≢ 10) × (length (line ++ front) ≡ 64))
past_limit line line' front room b e (inl h) = inl (omega (arith, length-append line front))
past_limit line line' front room b e (inr (other, h)) = inr (other, ap length (sym e) ∙ h)

-- a byte past a limit
long_text : (t : TableRows) (line line' : List ℕ) (old new : Held) (number : ℕ) (xs : List ℕ) → NoFeed line → ReadsOn old new line line' (Some Long)
    → trace_from t (old.room + length line) number ((line ++ old.bytes) ++ xs) ≡ no_more (Some (record { rule = LineTooLong; line = number }))
long_text t line line' old new number xs plain (front, byte, back, e, f, more, limit) =
    let whole : (line ++ old.bytes) ++ xs ≡ (line ++ front) ++ byte ∷ (back ++ xs) = ap (λ l. (line ++ l) ++ xs) e ∙ split_rest line front back xs byte in
    ap (trace_from t (old.room + length line) number) whole
    ∙ trace_long t (old.room + length line) number (line ++ front) byte (back ++ xs) (NoFeed-append line front plain more) (past_limit line line' front old.room byte f limit)

pub long_tells : (stopped : Option TraceStop) (t : TableRows) (line line' : List ℕ) (old new : Held) (number : ℕ) (coming : Option (List ℕ)) → stopped ≡ None → NoFeed line
    → ReadsOn old new line line' (Some Long)
    → (let r : Reading = record { tables = t; line = line; held = old.bytes; room = old.room; number = number; stopped = stopped } in IsOver (ahead r coming) (Some (record { rule = LineTooLong; line = number })))
long_tells stopped t line line' old new number None runs plain reads = tt
long_tells stopped t line line' old new number (Some xs) runs plain reads = rw runs (long_text t line line' old new number xs plain reads)

-- a whole line: its event, and what is left after it
whole_text : (t : TableRows) (line line' : List ℕ) (old new : Held) (number : ℕ) (xs : List ℕ) → NoFeed line → ReadsOn old new line line' (Some Whole) → length line' ≤ 64
    → trace_from t (old.room + length line) number ((line ++ old.bytes) ++ xs) ≡ in_front number (line_event t line') (trace_from t new.room (number + 1) (new.bytes ++ xs))
whole_text t line line' old new number xs plain (front, e, f, more, room) short =
    let whole : (line ++ old.bytes) ++ xs ≡ line' ++ 10 ∷ (new.bytes ++ xs) = ap (λ l. (line ++ l) ++ xs) e ∙ split_rest line front new.bytes xs 10 ∙ ap (λ l. l ++ 10 ∷ (new.bytes ++ xs)) (sym f) in
    let plain' : NoFeed line' = subst NoFeed (sym f) (NoFeed-append line front plain more) in
    let fits : length line' + 1 ≤ old.room + length line = omega (arith, ap length f, length-append line front) in
    let left_room : (old.room + length line) - (length line' + 1) ≡ new.room = omega (arith, ap length f, length-append line front) in
    ap (trace_from t (old.room + length line) number) whole
    ∙ trace_whole t (old.room + length line) number line' (new.bytes ++ xs) plain' short fits
    ∙ ap (λ n. in_front number (line_event t line') (trace_from t n (number + 1) (new.bytes ++ xs))) left_room

pub refused_tells : (stopped : Option TraceStop) (t : TableRows) (line line' : List ℕ) (old new : Held) (number : ℕ) (rule : LineRule) (coming : Option (List ℕ)) → stopped ≡ None → NoFeed line
    → ReadsOn old new line line' (Some Whole) → length line' ≤ 64 → line_event t line' ≡ Err rule
    → (let r : Reading = record { tables = t; line = line; held = old.bytes; room = old.room; number = number; stopped = stopped } in IsOver (ahead r coming) (Some (record { rule = rule; line = number })))
refused_tells stopped t line line' old new number rule None runs plain reads short is = tt
refused_tells stopped t line line' old new number rule (Some xs) runs plain reads short is =
    let later = trace_from t new.room (number + 1) (new.bytes ++ xs) in
    rw runs (whole_text t line line' old new number xs plain reads short ∙ ap (λ e. in_front number e later) is)

pub event_tells : (stopped : Option TraceStop) (t : TableRows) (line line' empty : List ℕ) (old new : Held) (number : ℕ) (event : Event) (coming : Option (List ℕ)) → stopped ≡ None → NoFeed line
    → ReadsOn old new line line' (Some Whole) → length line' ≤ 64 → line_event t line' ≡ Ok event → empty ≡ []
    → (let r : Reading = record { tables = t; line = line; held = old.bytes; room = old.room; number = number; stopped = stopped } in
    let s : Reading = record { tables = t; line = empty; held = new.bytes; room = new.room; number = number + 1; stopped = stopped } in
    TellsEvent (ahead r coming) (ahead s coming) event)
event_tells stopped t line line' empty old new number event None runs plain reads short is none = tt
event_tells stopped t line line' empty old new number event (Some xs) runs plain reads short is none =
    let later = trace_from t new.room (number + 1) (new.bytes ++ xs) in
    rw (runs, none, add-zero) (later, refl, whole_text t line line' old new number xs plain reads short ∙ ap (λ e. in_front number e later) is)

-- the text ended after the bytes of a line
ended_text : (t : TableRows) (line : List ℕ) (number room : ℕ) (text rest : List ℕ) → ended_by number line ≡ reported_from (Some (stop_behind number line)) t room number rest
ended_text t [] number room text rest = refl
ended_text t (c ∷ cs) number room text rest = refl

pub end_keeps : (t : TableRows) (line held held' : List ℕ) (number room room' : ℕ) (stopped stopped' : Option TraceStop) (from to : Option (List ℕ)) → stopped ≡ None → stopped' ≡ Some (stop_behind number line)
    → NoFeed line → length line ≤ 64 → held ≡ [] → Keeps from to → IsAtEnd to
    → (let r : Reading = record { tables = t; line = line; held = held; room = room; number = number; stopped = stopped } in
    let s : Reading = record { tables = t; line = line; held = held'; room = room'; number = number; stopped = stopped' } in
    Stays (ahead r from) (ahead s to))
end_keeps t line held held' number room room' stopped stopped' None to runs stops plain short none kept end = tt
end_keeps t line held held' number room room' stopped stopped' (Some xs) None runs stops plain short none kept end = absurd kept
end_keeps t line held held' number room room' stopped stopped' (Some xs) (Some ys) runs stops plain short none kept end =
    let nothing : xs ≡ [] = sym kept ∙ end in
    let whole : (line ++ held) ++ xs ≡ line = ap (λ l. (line ++ l) ++ xs) none ∙ ap (λ l. (line ++ []) ++ l) nothing ∙ append-nil (line ++ []) ∙ append-nil line in
    let fits : length line ≤ room + length line = omega arith in
    let e : trace_from t (room + length line) number ((line ++ held) ++ xs) ≡ reported_from (Some (stop_behind number line)) t (room' + length line) number ((line ++ held') ++ ys) =
    ap (trace_from t (room + length line) number) whole ∙ trace_cut t (room + length line) number line plain short fits
    ∙ ended_text t line number (room' + length line) [] ((line ++ held') ++ ys) in
    rw (runs, stops) (ap Some (sym e))

-- ---- the same, for a reader that is seen as its parts

abbrev parts : TableRows → List ℕ → Held → ℕ → Option TraceStop → Reading
parts t line held number stopped = record { tables = t; line = line; held = held.bytes; room = held.room; number = number; stopped = stopped }

pub long_reported : (now : Reading) (stopped : Option TraceStop) (t : TableRows) (line line' : List ℕ) (old new : Held) (number : ℕ) (coming : Option (List ℕ)) (later : Option Trace) (stop : TraceStop)
    → parts t line old number stopped ≡ now → stop ≡ Fault (record { rule = LineTooLong; line = number }) → stopped ≡ None → Fits stopped line old.room number
    → ReadsOn old new line line' (Some Long) → Tells (ahead now coming) later (Err stop)
long_reported now stopped t line line' old new number coming later stop view is runs fits reads =
    let (plain, small) = rw runs at fits in
    rw (is, ← view) (long_tells stopped t line line' old new number coming runs plain reads)

pub refused_reported : (now : Reading) (stopped : Option TraceStop) (t : TableRows) (line line' : List ℕ) (old new : Held) (number : ℕ) (rule : LineRule) (coming : Option (List ℕ)) (later : Option Trace) (stop : TraceStop)
    → parts t line old number stopped ≡ now → stop ≡ Fault (record { rule = rule; line = number }) → stopped ≡ None → Fits stopped line old.room number
    → ReadsOn old new line line' (Some Whole) → length line' ≤ 64 → line_event t line' ≡ Err rule → Tells (ahead now coming) later (Err stop)
refused_reported now stopped t line line' old new number rule coming later stop view is runs fits reads short event =
    let (plain, small) = rw runs at fits in
    rw (is, ← view) (refused_tells stopped t line line' old new number rule coming runs plain reads short event)

pub event_reported : (now : Reading) (stopped : Option TraceStop) (t : TableRows) (line line' empty : List ℕ) (old new : Held) (number : ℕ) (event : Event) (coming : Option (List ℕ))
    → parts t line old number stopped ≡ now → stopped ≡ None → Fits stopped line old.room number
    → ReadsOn old new line line' (Some Whole) → length line' ≤ 64 → line_event t line' ≡ Ok event → empty ≡ []
    → TellsEvent (ahead now coming) (ahead (parts t empty new (number + 1) stopped) coming) event
event_reported now stopped t line line' empty old new number event coming view runs fits reads short is none =
    let (plain, small) = rw runs at fits in
    rw (← view) (event_tells stopped t line line' empty old new number event coming runs plain reads short is none)

-- ---- the same, by what the next line says

pub next_event_reported : (now : Reading) (stopped : Option TraceStop) (t : TableRows) (line line' : List ℕ) (old new : Held) (number : ℕ) (event : Event) (read : Result Event LineRule) (coming : Option (List ℕ))
    → parts t line old number stopped ≡ now → stopped ≡ None → Fits stopped line old.room number
    → ReadsNext t old new line line' (Some read) → read ≡ Ok event
    → TellsEvent (ahead now coming) (ahead (parts t line' new (number + 1) stopped) coming) event
next_event_reported now stopped t line line' old new number event read coming view runs fits (inl (reads, long)) is = absurd (cc)
next_event_reported now stopped t line line' old new number event read coming view runs fits (inr (whole, reads, short, says, none)) is =
    event_reported now stopped t line whole line' old new number event coming view runs fits reads short (sym says ∙ is) none

pub next_refused_reported : (now : Reading) (stopped : Option TraceStop) (t : TableRows) (line line' : List ℕ) (old new : Held) (number : ℕ) (rule : LineRule) (read : Result Event LineRule) (coming : Option (List ℕ)) (later : Option Trace) (stop : TraceStop)
    → parts t line old number stopped ≡ now → stop ≡ Fault (record { rule = rule; line = number }) → stopped ≡ None → Fits stopped line old.room number
    → ReadsNext t old new line line' (Some read) → read ≡ Err rule → Tells (ahead now coming) later (Err stop)
next_refused_reported now stopped t line line' old new number rule read coming later stop view stops runs fits (inl (reads, long)) is =
    let same : rule ≡ LineTooLong = cc in
    long_reported now stopped t line line' old new number coming later stop view (stops ∙ ap (λ (x : LineRule). Fault (record { rule = x; line = number })) same) runs fits reads
next_refused_reported now stopped t line line' old new number rule read coming later stop view stops runs fits (inr (whole, reads, short, says, none)) is =
    refused_reported now stopped t line whole old new number rule coming later stop view stops runs fits reads short (sym says ∙ is)

-- a line that stands among the held bytes
pub held_read : (t : TableRows) (old new : Held) (line whole : List ℕ) (read : Result Event LineRule) → line ≡ [] → HoldsLine old whole
    → new.bytes ≡ drop (length whole + 1) old.bytes → (length whole + 1) + new.room ≡ old.room → read ≡ line_event t whole
    → ReadsNext t old new line line (Some read)
held_read t old new line whole read none (rest, e, plain, short, fits) passed room says =
    let behind : drop (length whole + 1) (whole ++ 10 ∷ rest) ≡ rest = drop-append-add whole (10 ∷ rest) 1 in
    let left : new.bytes ≡ rest = passed ∙ ap (drop (length whole + 1)) e ∙ behind in
    inr (whole, (whole, e ∙ ap (λ (l : List ℕ). whole ++ 10 ∷ l) (sym left), ap (λ (l : List ℕ). l ++ whole) (sym none), plain, omega (arith, room)), short, says, none)

-- the event of a line that stands whole among the held bytes
pub event_read : (t : TableRows) (old new : Held) (line : List ℕ) (event : Event) (count : ℕ) → line ≡ [] → HoldsEvent t old event count
    → new.bytes ≡ drop count old.bytes → count + new.room ≡ old.room → ReadsNext t old new line line (Some (Ok event))
event_read t old new line event count none (whole, holds, long, says) passed room =
    held_read t old new line whole (Ok event) none holds (passed ∙ ap (λ (n : ℕ). drop n old.bytes) (sym long)) (omega (arith, long)) (sym says)

pub fits_more : (stopped : Option TraceStop) (line line' : List ℕ) (old new : Held) (number : ℕ) → stopped ≡ None → Fits stopped line old.room number
    → ReadsOn old new line line' None → Fits stopped line' new.room number
fits_more stopped line line' old new number runs fits (e, more, none, room) =
    let (plain, small) = rw runs at fits in
    let plain' : NoFeed line' = subst NoFeed (sym e) (NoFeed-append line old.bytes plain more) in
    let small' : number + (new.room + length line') < 2 ^ 64 = omega (arith, ap length e, length-append line old.bytes) in
    rw runs (plain', small')

pub end_kept : (now : Reading) (t : TableRows) (line : List ℕ) (old new : Held) (number : ℕ) (stopped : Option TraceStop) (stop : TraceStop) (from to : Option (List ℕ))
    → parts t line old number stopped ≡ now → now.stopped ≡ None → stop ≡ stop_behind number line → Fits stopped line old.room number → length line ≤ 64 → now.held ≡ []
    → Keeps from to → IsAtEnd to → Stays (ahead now from) (ahead (parts t line new number (Some stop)) to)
end_kept now t line old new number stopped stop from to view runs is fits short none kept end =
    let runs' : stopped ≡ None = ap (λ (r : Reading). r.stopped) view ∙ runs in
    let none' : old.bytes ≡ [] = ap (λ (r : Reading). r.held) view ∙ none in
    let (plain, small) = rw runs' at fits in
    rw (← view) (end_keeps t line old.bytes new.bytes number old.room new.room stopped (Some stop) from to runs' (ap Some is) plain short none' kept end)

stops_behind : (number : ℕ) (line : List ℕ) (stop : TraceStop) → stop ≡ stop_behind number line → StopsBehind number line (Some stop)
stops_behind number line End is = is
stops_behind number line (Fault f) is = is
stops_behind number line Broken is = tt

pub end_stops : (now : Reading) (t : TableRows) (line : List ℕ) (old : Held) (number : ℕ) (stopped : Option TraceStop) (stop : TraceStop)
    → parts t line old number stopped ≡ now → stop ≡ stop_behind number line → StopsBehind now.number now.line (Some stop)
end_stops now t line old number stopped stop view is = subst (λ (r : Reading). StopsBehind r.number r.line (Some stop)) view (stops_behind number line stop is)
