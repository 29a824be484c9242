-- What each step of a reader does to the capture ahead.
use Rattle.std.proofs.Common.{◌≡◌, ◌≢◌, ℕ, ◌+◌, ◌-◌, ◌^◌, ◌<◌, ◌≤◌, List, [], ◌∷◌, ◌++◌, length, length-append, add-zero, refl, sym, ◌∙◌, ap, subst, append_assoc, append-nil, arith, ◌⊎◌, inl, inr, Option, Some, None, Result, Ok, Err, drop}
use Rattle.std.proofs.Math.Seq.{drop-append-add}
use Rattle.std.specs.Io.KnownBytes.{IsAtEnd, Keeps}
use Rattle.dc_device.specs.Lines.{Held, HoldsLine, NoFeed, ReadsOn}
use Rattle.dc_device.specs.declared.reader.LineEnd.TheVariants.{Long, Whole}
use Rattle.dc_device.specs.lemmas.LineLemmas.{NoFeed-append}
use Rattle.dc_tables.specs.TableRows.{TableRows}
use Rattle.dc_capture.specs.Ahead.{HoldsWord}
use Rattle.dc_capture.specs.CaptureText.{Capture, ended_by, in_front, latest_after, line_word}
use Rattle.dc_capture.specs.Reading.{Fits, IsOver, Reading, ReadsNext, Stays, StopsBehind, Tells, TellsWord, ahead, no_more, stop_behind, reported_from, capture_from}
use Rattle.dc_capture.specs.declared.line.CapturedWord.{CapturedWord}
use Rattle.dc_capture.specs.declared.fault.CaptureRule.{CaptureRule}
use Rattle.dc_capture.specs.declared.fault.CaptureRule.TheVariants.{LineTooLong}
use Rattle.dc_capture.specs.declared.fault.CaptureStop.{CaptureStop}
use Rattle.dc_capture.specs.declared.fault.CaptureStop.TheVariants.{End, Fault, Broken}
use Rattle.dc_capture.proofs.CaptureAnswers.{capture_cut, capture_long, capture_whole}

split_rest : (line front back xs : List ℕ) (b : ℕ) → (line ++ (front ++ b ∷ back)) ++ xs ≡ (line ++ front) ++ b ∷ (back ++ xs)
split_rest line front back xs b = simp append_assoc

past_limit : (line line' front : List ℕ) (room b : ℕ) → line' ≡ line ++ front → (length front ≡ room) ⊎ ((b ≢ 10) × (length line' ≡ 64))
    → (length (line ++ front) ≡ room + length line) ⊎ ((b ≢ 10) × (length (line ++ front) ≡ 64))
past_limit line line' front room b e (inl h) = inl (omega (arith, length-append line front))
past_limit line line' front room b e (inr (other, h)) = inr (other, ap length (sym e) ∙ h)

-- a byte past a limit
long_text : (t : TableRows) (line line' : List ℕ) (old new : Held) (number latest : ℕ) (xs : List ℕ) → NoFeed line → ReadsOn old new line line' (Some Long)
    → capture_from t (old.room + length line) number latest ((line ++ old.bytes) ++ xs) ≡ no_more (Some (record { rule = LineTooLong; line = number }))
long_text t line line' old new number latest xs plain (front, byte, back, e, f, more, limit) =
    let whole : (line ++ old.bytes) ++ xs ≡ (line ++ front) ++ byte ∷ (back ++ xs) = ap (λ l. (line ++ l) ++ xs) e ∙ split_rest line front back xs byte in
    ap (capture_from t (old.room + length line) number latest) whole
    ∙ capture_long t (old.room + length line) number latest (line ++ front) byte (back ++ xs) (NoFeed-append line front plain more) (past_limit line line' front old.room byte f limit)

pub long_tells : (stopped : Option CaptureStop) (t : TableRows) (line line' : List ℕ) (old new : Held) (number latest : ℕ) (coming : Option (List ℕ)) → stopped ≡ None → NoFeed line
    → ReadsOn old new line line' (Some Long)
    → (let r : Reading = record { tables = t; line = line; held = old.bytes; room = old.room; number = number; latest = latest; stopped = stopped } in IsOver (ahead r coming) (Some (record { rule = LineTooLong; line = number })))
long_tells stopped t line line' old new number latest None runs plain reads = tt
long_tells stopped t line line' old new number latest (Some xs) runs plain reads = rw runs (long_text t line line' old new number latest xs plain reads)

-- a whole line: its event, and what is left after it
whole_text : (t : TableRows) (line line' : List ℕ) (old new : Held) (number latest : ℕ) (xs : List ℕ) → NoFeed line → ReadsOn old new line line' (Some Whole) → length line' ≤ 64
    → capture_from t (old.room + length line) number latest ((line ++ old.bytes) ++ xs) ≡ in_front number (line_word t latest line') (capture_from t new.room (number + 1) (latest_after latest (line_word t latest line')) (new.bytes ++ xs))
whole_text t line line' old new number latest xs plain (front, e, f, more, room) short =
    let whole : (line ++ old.bytes) ++ xs ≡ line' ++ 10 ∷ (new.bytes ++ xs) = ap (λ l. (line ++ l) ++ xs) e ∙ split_rest line front new.bytes xs 10 ∙ ap (λ l. l ++ 10 ∷ (new.bytes ++ xs)) (sym f) in
    let plain' : NoFeed line' = subst NoFeed (sym f) (NoFeed-append line front plain more) in
    let fits : length line' + 1 ≤ old.room + length line = omega (arith, ap length f, length-append line front) in
    let left_room : (old.room + length line) - (length line' + 1) ≡ new.room = omega (arith, ap length f, length-append line front) in
    ap (capture_from t (old.room + length line) number latest) whole
    ∙ capture_whole t (old.room + length line) number latest line' (new.bytes ++ xs) plain' short fits
    ∙ ap (λ n. in_front number (line_word t latest line') (capture_from t n (number + 1) (latest_after latest (line_word t latest line')) (new.bytes ++ xs))) left_room

pub refused_tells : (stopped : Option CaptureStop) (t : TableRows) (line line' : List ℕ) (old new : Held) (number latest : ℕ) (rule : CaptureRule) (coming : Option (List ℕ)) → stopped ≡ None → NoFeed line
    → ReadsOn old new line line' (Some Whole) → length line' ≤ 64 → line_word t latest line' ≡ Err rule
    → (let r : Reading = record { tables = t; line = line; held = old.bytes; room = old.room; number = number; latest = latest; stopped = stopped } in IsOver (ahead r coming) (Some (record { rule = rule; line = number })))
refused_tells stopped t line line' old new number latest rule None runs plain reads short is = tt
refused_tells stopped t line line' old new number latest rule (Some xs) runs plain reads short is =
    rw runs (whole_text t line line' old new number latest xs plain reads short ∙ ap (λ (e : Result CapturedWord CaptureRule). in_front number e (capture_from t new.room (number + 1) (latest_after latest e) (new.bytes ++ xs))) is)

pub word_tells : (stopped : Option CaptureStop) (t : TableRows) (line line' empty : List ℕ) (old new : Held) (number latest : ℕ) (word : CapturedWord) (coming : Option (List ℕ)) → stopped ≡ None → NoFeed line
    → ReadsOn old new line line' (Some Whole) → length line' ≤ 64 → line_word t latest line' ≡ Ok word → empty ≡ []
    → (let r : Reading = record { tables = t; line = line; held = old.bytes; room = old.room; number = number; latest = latest; stopped = stopped } in
    let s : Reading = record { tables = t; line = empty; held = new.bytes; room = new.room; number = number + 1; latest = word.time; stopped = stopped } in
    TellsWord (ahead r coming) (ahead s coming) word)
word_tells stopped t line line' empty old new number latest word None runs plain reads short is none = tt
word_tells stopped t line line' empty old new number latest word (Some xs) runs plain reads short is none =
    let later = capture_from t new.room (number + 1) word.time (new.bytes ++ xs) in
    rw (runs, none, add-zero) (later, refl, whole_text t line line' old new number latest xs plain reads short ∙ ap (λ (e : Result CapturedWord CaptureRule). in_front number e (capture_from t new.room (number + 1) (latest_after latest e) (new.bytes ++ xs))) is)

-- the text ended after the bytes of a line
ended_text : (t : TableRows) (line : List ℕ) (number room latest : ℕ) (text rest : List ℕ) → ended_by number line ≡ reported_from (Some (stop_behind number line)) t room number latest rest
ended_text t [] number room latest text rest = refl
ended_text t (c ∷ cs) number room latest text rest = refl

pub end_keeps : (t : TableRows) (line held held' : List ℕ) (number room room' latest : ℕ) (stopped stopped' : Option CaptureStop) (from to : Option (List ℕ)) → stopped ≡ None → stopped' ≡ Some (stop_behind number line)
    → NoFeed line → length line ≤ 64 → held ≡ [] → Keeps from to → IsAtEnd to
    → (let r : Reading = record { tables = t; line = line; held = held; room = room; number = number; latest = latest; stopped = stopped } in
    let s : Reading = record { tables = t; line = line; held = held'; room = room'; number = number; latest = latest; stopped = stopped' } in
    Stays (ahead r from) (ahead s to))
end_keeps t line held held' number room room' latest stopped stopped' None to runs stops plain short none kept end = tt
end_keeps t line held held' number room room' latest stopped stopped' (Some xs) None runs stops plain short none kept end = absurd kept
end_keeps t line held held' number room room' latest stopped stopped' (Some xs) (Some ys) runs stops plain short none kept end =
    let nothing : xs ≡ [] = sym kept ∙ end in
    let whole : (line ++ held) ++ xs ≡ line = ap (λ l. (line ++ l) ++ xs) none ∙ ap (λ l. (line ++ []) ++ l) nothing ∙ append-nil (line ++ []) ∙ append-nil line in
    let fits : length line ≤ room + length line = omega arith in
    let e : capture_from t (room + length line) number latest ((line ++ held) ++ xs) ≡ reported_from (Some (stop_behind number line)) t (room' + length line) number latest ((line ++ held') ++ ys) =
    ap (capture_from t (room + length line) number latest) whole ∙ capture_cut t (room + length line) number latest line plain short fits
    ∙ ended_text t line number (room' + length line) latest [] ((line ++ held') ++ ys) in
    rw (runs, stops) (ap Some (sym e))

-- ---- the same, for a reader that is seen as its parts

abbrev parts : TableRows → List ℕ → Held → (number latest : ℕ) → Option CaptureStop → Reading
parts t line held number latest stopped = record { tables = t; line = line; held = held.bytes; room = held.room; number = number; latest = latest; stopped = stopped }

pub long_reported : (now : Reading) (stopped : Option CaptureStop) (t : TableRows) (line line' : List ℕ) (old new : Held) (number latest : ℕ) (coming : Option (List ℕ)) (later : Option Capture) (stop : CaptureStop)
    → parts t line old number latest stopped ≡ now → stop ≡ Fault (record { rule = LineTooLong; line = number }) → stopped ≡ None → Fits stopped line old.room number
    → ReadsOn old new line line' (Some Long) → Tells (ahead now coming) later (Err stop)
long_reported now stopped t line line' old new number latest coming later stop view is runs fits reads =
    let (plain, small) = rw runs at fits in
    rw (is, ← view) (long_tells stopped t line line' old new number latest coming runs plain reads)

pub refused_reported : (now : Reading) (stopped : Option CaptureStop) (t : TableRows) (line line' : List ℕ) (old new : Held) (number latest : ℕ) (rule : CaptureRule) (coming : Option (List ℕ)) (later : Option Capture) (stop : CaptureStop)
    → parts t line old number latest stopped ≡ now → stop ≡ Fault (record { rule = rule; line = number }) → stopped ≡ None → Fits stopped line old.room number
    → ReadsOn old new line line' (Some Whole) → length line' ≤ 64 → line_word t latest line' ≡ Err rule → Tells (ahead now coming) later (Err stop)
refused_reported now stopped t line line' old new number latest rule coming later stop view is runs fits reads short says =
    let (plain, small) = rw runs at fits in
    rw (is, ← view) (refused_tells stopped t line line' old new number latest rule coming runs plain reads short says)

pub word_reported : (now : Reading) (stopped : Option CaptureStop) (t : TableRows) (line line' empty : List ℕ) (old new : Held) (number latest : ℕ) (word : CapturedWord) (coming : Option (List ℕ))
    → parts t line old number latest stopped ≡ now → stopped ≡ None → Fits stopped line old.room number
    → ReadsOn old new line line' (Some Whole) → length line' ≤ 64 → line_word t latest line' ≡ Ok word → empty ≡ []
    → TellsWord (ahead now coming) (ahead (parts t empty new (number + 1) word.time stopped) coming) word
word_reported now stopped t line line' empty old new number latest word coming view runs fits reads short is none =
    let (plain, small) = rw runs at fits in
    rw (← view) (word_tells stopped t line line' empty old new number latest word coming runs plain reads short is none)

-- ---- the same, by what the next line says

pub next_word_reported : (now : Reading) (stopped : Option CaptureStop) (t : TableRows) (line line' : List ℕ) (old new : Held) (number latest : ℕ) (word : CapturedWord) (read : Result CapturedWord CaptureRule) (coming : Option (List ℕ))
    → parts t line old number latest stopped ≡ now → stopped ≡ None → Fits stopped line old.room number
    → ReadsNext t latest old new line line' (Some read) → read ≡ Ok word
    → TellsWord (ahead now coming) (ahead (parts t line' new (number + 1) word.time stopped) coming) word
next_word_reported now stopped t line line' old new number latest word read coming view runs fits (inl (reads, long)) is = absurd (cc)
next_word_reported now stopped t line line' old new number latest word read coming view runs fits (inr (whole, reads, short, says, none)) is =
    word_reported now stopped t line whole line' old new number latest word coming view runs fits reads short (sym says ∙ is) none

pub next_refused_reported : (now : Reading) (stopped : Option CaptureStop) (t : TableRows) (line line' : List ℕ) (old new : Held) (number latest : ℕ) (rule : CaptureRule) (read : Result CapturedWord CaptureRule) (coming : Option (List ℕ)) (later : Option Capture) (stop : CaptureStop)
    → parts t line old number latest stopped ≡ now → stop ≡ Fault (record { rule = rule; line = number }) → stopped ≡ None → Fits stopped line old.room number
    → ReadsNext t latest old new line line' (Some read) → read ≡ Err rule → Tells (ahead now coming) later (Err stop)
next_refused_reported now stopped t line line' old new number latest rule read coming later stop view stops runs fits (inl (reads, long)) is =
    let same : rule ≡ LineTooLong = cc in
    long_reported now stopped t line line' old new number latest coming later stop view (stops ∙ ap (λ (x : CaptureRule). Fault (record { rule = x; line = number })) same) runs fits reads
next_refused_reported now stopped t line line' old new number latest rule read coming later stop view stops runs fits (inr (whole, reads, short, says, none)) is =
    refused_reported now stopped t line whole old new number latest rule coming later stop view stops runs fits reads short (sym says ∙ is)

-- a line that stands among the held bytes
pub held_read : (t : TableRows) (latest : ℕ) (old new : Held) (line whole : List ℕ) (read : Result CapturedWord CaptureRule) → line ≡ [] → HoldsLine old whole
    → new.bytes ≡ drop (length whole + 1) old.bytes → (length whole + 1) + new.room ≡ old.room → read ≡ line_word t latest whole
    → ReadsNext t latest old new line line (Some read)
held_read t latest old new line whole read none (rest, e, plain, short, fits) passed room says =
    let behind : drop (length whole + 1) (whole ++ 10 ∷ rest) ≡ rest = drop-append-add whole (10 ∷ rest) 1 in
    let left : new.bytes ≡ rest = passed ∙ ap (drop (length whole + 1)) e ∙ behind in
    inr (whole, (whole, e ∙ ap (λ (l : List ℕ). whole ++ 10 ∷ l) (sym left), ap (λ (l : List ℕ). l ++ whole) (sym none), plain, omega (arith, room)), short, says, none)

-- the word of a line that stands whole among the held bytes
pub word_read : (t : TableRows) (latest : ℕ) (old new : Held) (line : List ℕ) (word : CapturedWord) (count : ℕ) → line ≡ [] → HoldsWord t latest old word count
    → new.bytes ≡ drop count old.bytes → count + new.room ≡ old.room → ReadsNext t latest old new line line (Some (Ok word))
word_read t latest old new line word count none (whole, holds, long, says) passed room =
    held_read t latest old new line whole (Ok word) none holds (passed ∙ ap (λ (n : ℕ). drop n old.bytes) (sym long)) (omega (arith, long)) (sym says)

pub fits_more : (stopped : Option CaptureStop) (line line' : List ℕ) (old new : Held) (number : ℕ) → stopped ≡ None → Fits stopped line old.room number
    → ReadsOn old new line line' None → Fits stopped line' new.room number
fits_more stopped line line' old new number runs fits (e, more, none, room) =
    let (plain, small) = rw runs at fits in
    let plain' : NoFeed line' = subst NoFeed (sym e) (NoFeed-append line old.bytes plain more) in
    let small' : number + (new.room + length line') < 2 ^ 64 = omega (arith, ap length e, length-append line old.bytes) in
    rw runs (plain', small')

pub end_kept : (now : Reading) (t : TableRows) (line : List ℕ) (old new : Held) (number latest : ℕ) (stopped : Option CaptureStop) (stop : CaptureStop) (from to : Option (List ℕ))
    → parts t line old number latest stopped ≡ now → now.stopped ≡ None → stop ≡ stop_behind number line → Fits stopped line old.room number → length line ≤ 64 → now.held ≡ []
    → Keeps from to → IsAtEnd to → Stays (ahead now from) (ahead (parts t line new number latest (Some stop)) to)
end_kept now t line old new number latest stopped stop from to view runs is fits short none kept end =
    let runs' : stopped ≡ None = ap (λ (r : Reading). r.stopped) view ∙ runs in
    let none' : old.bytes ≡ [] = ap (λ (r : Reading). r.held) view ∙ none in
    let (plain, small) = rw runs' at fits in
    rw (← view) (end_keeps t line old.bytes new.bytes number old.room new.room latest stopped (Some stop) from to runs' (ap Some is) plain short none' kept end)

stops_behind : (number : ℕ) (line : List ℕ) (stop : CaptureStop) → stop ≡ stop_behind number line → StopsBehind number line (Some stop)
stops_behind number line End is = is
stops_behind number line (Fault f) is = is
stops_behind number line Broken is = tt

pub end_stops : (now : Reading) (t : TableRows) (line : List ℕ) (old : Held) (number latest : ℕ) (stopped : Option CaptureStop) (stop : CaptureStop)
    → parts t line old number latest stopped ≡ now → stop ≡ stop_behind number line → StopsBehind now.number now.line (Some stop)
end_stops now t line old number latest stopped stop view is = subst (λ (r : Reading). StopsBehind r.number r.line (Some stop)) view (stops_behind number line stop is)
