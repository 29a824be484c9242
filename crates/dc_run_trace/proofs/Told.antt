-- What a trace has told so far, and how each exit ends its answer.
use Rattle.std.proofs.Common.{◌≡◌, ◌≢◌, ℕ, zero, suc, ◌+◌, ◌-◌, ◌≤◌, ◌<◌, List, [], ◌∷◌, ◌++◌, length, take, refl, sym, ◌∙◌, ap, subst, append_assoc, append-nil, arith, Option, Some, None, IfSome, Result, Ok, Err}
use Rattle.std.proofs.KnownBytes.{Appends-nil, Appends-trans}
use Rattle.std.proofs.Math.Seq.{take-append-add}
use Rattle.std.specs.Io.KnownBytes.{Appends}
use Rattle.dc_answer.specs.Answer.{Answer, Ends, EndsSome, after_all, nothing}
use Rattle.dc_answer.specs.declared.answer.Failure.{Failure}
use Rattle.dc_answer.specs.declared.answer.Failure.TheVariants.{Source, Sink, Memory}
use Rattle.dc_answer.specs.declared.exit.Outcome.{Outcome}
use Rattle.dc_answer.specs.declared.exit.Outcome.TheVariants.{Done}
use Rattle.dc_answer.specs.lemmas.Endings.{after_twice, by_text, ends_after, gathered_lines, gathered_pushed, some_ends}
use Rattle.dc_capture.specs.CaptureText.{Capture, word_in_front}
use Rattle.dc_capture.specs.Reading.{IsOver, Reading, Stays, Tells, TellsWord, no_more, pulls_left}
use Rattle.dc_capture.specs.declared.fault.CaptureFault.{CaptureFault}
use Rattle.dc_capture.specs.declared.fault.CaptureStop.{CaptureStop}
use Rattle.dc_capture.specs.declared.fault.CaptureStop.TheVariants.{End, Fault, Broken}
use Rattle.dc_capture.specs.declared.line.CapturedWord.{CapturedWord}
use Rattle.dc_device.specs.Bytes.{AppendsFront, Gathered}
use Rattle.dc_device.specs.Lines.{spelled}
use Rattle.dc_device.specs.lemmas.Known.{front_after, front_more}
use Rattle.dc_device.specs.lemmas.LineLemmas.{spelled-append}
use Rattle.dc_event.specs.declared.event.Event.{Event}
use Rattle.dc_run_trace.proofs.Spelling.{lines-append}
use Rattle.dc_run_trace.proofs.Tracing.{recorded_order, traced_words}
use Rattle.dc_run_trace.specs.Answer.{WritesCapture, capture_end, recorded, trace_answer}
use Rattle.dc_run_trace.specs.Lines.{run_text}
use Rattle.dc_run_trace.specs.Steps.{StopsBy, answer_ahead, clock_or, last_tick, run_ahead, run_from, steady_from, stop_answer, up_to_word}
use Rattle.dc_run_trace.specs.declared.clock.Clock.{Clock}
use Rattle.dc_tables.specs.TableRows.{AreValid, TableRows}
use Rattle.dc_trace.specs.Traces.{arrive, tick_at}

-- how many rounds a reader makes at most
abbrev pub steps : Option CaptureStop → ℕ → ℕ
steps None n = n + 1
steps (Some stop) n = 0

-- Some lines were told or wait, and the answer is these and what is still to come.
pub record Told (t : TableRows) (from : Option ℕ) (source : Option (List ℕ)) (left : Option Capture) (clock : Option Clock) (old new : Option (List ℕ)) (waiting : List ℕ) : Type 0 where
  pub done : List (List ℕ)
  pub gathered : Gathered old [] new waiting (spelled done)
  pub ahead : (text : List ℕ) → source ≡ Some text → (rest : Capture) × (left ≡ Some rest) × (trace_answer t from (recorded t from text) ≡ after_all done (answer_ahead t from clock rest))

-- ---- what is left of a capture

stayed : (left later : Option Capture) (rest : Capture) → left ≡ Some rest → Stays left later → later ≡ Some rest
stayed None later rest at h = cc
stayed (Some c) later rest at h = cc

over : (left : Option Capture) (rest : Capture) (fault : Option CaptureFault) → left ≡ Some rest → IsOver left fault → rest ≡ no_more fault
over None rest fault at h = cc
over (Some c) rest fault at h = cc

next : (left later : Option Capture) (rest : Capture) (x : CapturedWord) → left ≡ Some rest → TellsWord left later x → (more : Capture) × (later ≡ Some more) × (rest ≡ word_in_front x more)
next None later rest x at h = cc
next (Some c) later rest x at (more, is, whole) = (more, is, cc)

-- ---- what is still to come

abbrev word_of : CapturedWord → ℕ × (ℕ × ℕ)
word_of x = (x.time, (x.bus, x.word))

-- where a trace stands behind a word
abbrev pub clock_behind : TableRows → Clock → CapturedWord → Clock
clock_behind t clock x = record { from = clock.from; tick = tick_at clock.from t.tick_us x.time }

run_next : (t : TableRows) (from : Option ℕ) (clock : Option Clock) (x : CapturedWord) (xs : List (ℕ × (ℕ × ℕ)))
    → run_ahead t from clock (word_of x ∷ xs) ≡ up_to_word t (clock_or clock from x.time) (word_of x) ++ run_ahead t from (Some (clock_behind t (clock_or clock from x.time) x)) xs
run_next t from (Some c) x xs = sym (append_assoc (steady_from t c.tick (tick_at c.from t.tick_us x.time - c.tick)) (arrive (word_of x) ∷ []) (run_from t c.from (tick_at c.from t.tick_us x.time) xs))
run_next t from None x xs =
    let c = clock_or None from x.time in
    sym (append_assoc (steady_from t c.tick (tick_at c.from t.tick_us x.time - c.tick)) (arrive (word_of x) ∷ []) (run_from t c.from (tick_at c.from t.tick_us x.time) xs))

answer_next : (t : TableRows) (from : Option ℕ) (clock : Option Clock) (x : CapturedWord) (more : Capture)
    → answer_ahead t from clock (word_in_front x more) ≡ after_all (run_text t (up_to_word t (clock_or clock from x.time) (word_of x))) (answer_ahead t from (Some (clock_behind t (clock_or clock from x.time) x)) more)
answer_next t from clock x more =
    let here = up_to_word t (clock_or clock from x.time) (word_of x) in
    let there = run_ahead t from (Some (clock_behind t (clock_or clock from x.time) x)) more.words in
    ap (λ run. after_all (run_text t run) (capture_end more.fault)) (run_next t from clock x more.words)
    ∙ ap (λ lines. after_all lines (capture_end more.fault)) (lines-append t here there)
    ∙ sym (after_twice (run_text t here) (run_text t there) (capture_end more.fault))

run_over : (t : TableRows) (from : Option ℕ) (clock : Option Clock) → run_ahead t from clock [] ≡ last_tick t clock
run_over t from None = refl
run_over t from (Some c) = refl

answer_over : (t : TableRows) (from : Option ℕ) (clock : Option Clock) (fault : Option CaptureFault) → answer_ahead t from clock (no_more fault) ≡ after_all (run_text t (last_tick t clock)) (capture_end fault)
answer_over t from clock fault = ap (λ run. after_all (run_text t run) (capture_end fault)) (run_over t from clock)

answer_first : (t : TableRows) → 1 ≤ t.tick_us → (from : Option ℕ) (text : List ℕ) → trace_answer t from (recorded t from text) ≡ after_all [] (answer_ahead t from None (recorded t from text))
answer_first t some from text =
    ap (λ run. after_all (run_text t run) (capture_end (recorded t from text).fault)) (traced_words t some from (recorded t from text).words (recorded_order t from text))

-- ---- exits

spelled_none : (k : ℕ) → spelled (take {A = List ℕ} k []) ≡ []
spelled_none zero = refl
spelled_none (suc k) = refl

-- a failure is that of any answer that begins so
any_ends : (a b : Option (List ℕ)) (waiting : List ℕ) (answer : Answer) (failure : Failure) → Ends a waiting b nothing (Err failure) → Ends a waiting b answer (Err failure)
any_ends a b waiting answer Source (k, p) = (0, subst (λ l. Appends a b (waiting ++ l)) (spelled_none k) p)
any_ends a b waiting answer Memory (k, p) = (0, subst (λ l. Appends a b (waiting ++ l)) (spelled_none k) p)
any_ends a b waiting answer Sink p = front_more a b waiting (spelled answer.lines) (subst (AppendsFront a b) (append-nil waiting) p)

-- a front of lines that others follow
pub front_lines : (a b : Option (List ℕ)) (waiting : List ℕ) (xs ys : List (List ℕ)) → AppendsFront a b (waiting ++ spelled xs) → AppendsFront a b (waiting ++ spelled (xs ++ ys))
front_lines a b waiting xs ys p =
    subst (AppendsFront a b) (append_assoc waiting (spelled xs) (spelled ys) ∙ ap (λ l. waiting ++ l) (sym (spelled-append xs ys))) (front_more a b (waiting ++ spelled xs) (spelled ys) p)

-- lines that were gathered behind what waited, and the end
joined : (front waiting waiting' : List ℕ) (xs ys : List (List ℕ)) → front ++ waiting' ≡ waiting ++ spelled xs → front ++ (waiting' ++ spelled ys) ≡ waiting ++ spelled (xs ++ ys)
joined front waiting waiting' xs ys e =
    sym (append_assoc front waiting' (spelled ys)) ∙ ap (λ l. l ++ spelled ys) e ∙ append_assoc waiting (spelled xs) (spelled ys) ∙ ap (λ l. waiting ++ l) (sym (spelled-append xs ys))

pub ends_behind : (a b c : Option (List ℕ)) (waiting waiting' : List ℕ) (xs : List (List ℕ)) (last : Answer) (result : Result Outcome Failure)
    → Gathered a waiting b waiting' (spelled xs) → Ends b waiting' c last result → Ends a waiting c (after_all xs last) result
ends_behind a b c waiting waiting' xs last (Ok outcome) (front, p, e) (q, s) =
    (subst (Appends a c) (joined front waiting waiting' xs last.lines e) (Appends-trans a b c front (waiting' ++ spelled last.lines) p q), s)
ends_behind a b c waiting waiting' xs last (Err Source) (front, p, e) (k, q) =
    (length xs + k, rw (take-append-add xs last.lines k) (subst (Appends a c) (joined front waiting waiting' xs (take k last.lines) e) (Appends-trans a b c front (waiting' ++ spelled (take k last.lines)) p q)))
ends_behind a b c waiting waiting' xs last (Err Memory) (front, p, e) (k, q) =
    (length xs + k, rw (take-append-add xs last.lines k) (subst (Appends a c) (joined front waiting waiting' xs (take k last.lines) e) (Appends-trans a b c front (waiting' ++ spelled (take k last.lines)) p q)))
ends_behind a b c waiting waiting' xs last (Err Sink) (front, p, e) q =
    subst (AppendsFront a c) (joined front waiting waiting' xs last.lines e) (front_after a b c front (waiting' ++ spelled last.lines) p q)

-- the same of lines behind lines
pub gathered_behind : (a b c : Option (List ℕ)) (w w' w'' : List ℕ) (xs ys : List (List ℕ)) → Gathered a w b w' (spelled xs) → Gathered b w' c w'' (spelled ys) → Gathered a w c w'' (spelled (xs ++ ys))
gathered_behind a b c w w' w'' xs ys (front, p, e) (more, q, f) = (
  front ++ more,
  Appends-trans a b c front more p q,
  append_assoc front more w'' ∙ ap (λ l. front ++ l) f ∙ joined front w w' xs ys e,
)

-- and of a front of them
pub front_behind : (a b c : Option (List ℕ)) (w w' : List ℕ) (xs ys : List (List ℕ)) → Gathered a w b w' (spelled xs) → AppendsFront b c (w' ++ spelled ys) → AppendsFront a c (w ++ spelled (xs ++ ys))
front_behind a b c w w' xs ys (front, p, e) q = subst (AppendsFront a c) (joined front w w' xs ys e) (front_after a b c front (w' ++ spelled ys) p q)

module _ (t : TableRows) (from : Option ℕ) (source : Option (List ℕ)) where
  -- nothing came and nothing was told
  pub told_first : AreValid t → (left : Option Capture) (old : Option (List ℕ)) (waiting : List ℕ) → waiting ≡ [] → ((text : List ℕ) → source ≡ Some text → left ≡ Some (recorded t from text))
      → Told t from source left None old old waiting
  told_first valid left old waiting empty whole = record {
    done = [];
    gathered = ([], Appends-nil old, rw empty refl);
    ahead = λ text is. (recorded t from text, whole text is, answer_first t (omega (arith, valid.ticks_some)) from text);
  }

  -- what was told, and the end
  told_ends : (left : Option Capture) (clock : Option Clock) (old new end : Option (List ℕ)) (waiting : List ℕ) (result : Result Outcome Failure) → Told t from source left clock old new waiting
      → ((rest : Capture) → left ≡ Some rest → Ends new waiting end (answer_ahead t from clock rest) result) → IfSome source (λ text. WritesCapture t from text old end result)
  told_ends left clock old new end waiting result s f = by_text source (λ text. WritesCapture t from text old end result) (λ text is.
      let (rest, at, e) = s.ahead text is in
      subst (λ answer. Ends old [] end answer result) (sym e) (ends_after old new end waiting s.done (answer_ahead t from clock rest) result s.gathered (f rest at)))

  pub flush_ends : (left : Option Capture) (clock : Option Clock) (old new end : Option (List ℕ)) (waiting : List ℕ) → Told t from source left clock old new waiting
      → AppendsFront new end waiting → IfSome source (λ text. WritesCapture t from text old end (Err Sink))
  flush_ends left clock old new end waiting s failed = told_ends left clock old new end waiting (Err Sink) s (λ rest at. front_more new end waiting (spelled (answer_ahead t from clock rest).lines) failed)

  over_ends : (left : Option Capture) (clock : Option Clock) (new end : Option (List ℕ)) (waiting : List ℕ) (fault : Option CaptureFault) (result : Result Outcome Failure) (rest : Capture) → left ≡ Some rest → IsOver left fault
      → Ends new waiting end (after_all (run_text t (last_tick t clock)) (capture_end fault)) result → Ends new waiting end (answer_ahead t from clock rest) result
  over_ends left clock new end waiting fault result rest at h ends =
      subst (λ answer. Ends new waiting end answer result) (sym (ap (answer_ahead t from clock) (over left rest fault at h) ∙ answer_over t from clock fault)) ends

  -- the reader stopped
  pub stop_ends : (left later : Option Capture) (clock : Option Clock) (old new end : Option (List ℕ)) (waiting : List ℕ) (stop : CaptureStop) (result : Result Outcome Failure) → Told t from source left clock old new waiting
      → Tells left later (Err stop) → StopsBy stop result → Ends new waiting end (stop_answer t clock stop) result → IfSome source (λ text. WritesCapture t from text old end result)
  stop_ends left later clock old new end waiting End result s tells stops ends =
      told_ends left clock old new end waiting result s (λ rest at. over_ends left clock new end waiting None result rest at tells ends)
  stop_ends left later clock old new end waiting (Fault f) result s tells stops ends =
      told_ends left clock old new end waiting result s (λ rest at. over_ends left clock new end waiting (Some f) result rest at tells ends)
  stop_ends left later clock old new end waiting Broken (Ok x) s tells stops ends = absurd (stops refl)
  stop_ends left later clock old new end waiting Broken (Err x) s tells stops ends =
      told_ends left clock old new end waiting (Err x) s (λ rest at. any_ends new end waiting (answer_ahead t from clock rest) x ends)

  -- a word could not be written
  pub say_ends : (left later : Option Capture) (clock : Option Clock) (old new end : Option (List ℕ)) (waiting : List ℕ) (x : CapturedWord) (failure : Failure) → Told t from source left clock old new waiting
      → TellsWord left later x → AppendsFront new end (waiting ++ spelled (run_text t (up_to_word t (clock_or clock from x.time) (x.time, (x.bus, x.word))))) → failure ≡ Sink
      → IfSome source (λ text. WritesCapture t from text old end (Err failure))
  say_ends left later clock old new end waiting x failure s tells failed is =
      rw is (told_ends left clock old new end waiting (Err Sink) s (λ rest at.
      let (more, later_is, first) = next left later rest x at tells in
      let here = run_text t (up_to_word t (clock_or clock from x.time) (word_of x)) in
      let then_more = answer_ahead t from (Some (clock_behind t (clock_or clock from x.time) x)) more in
      subst (λ (answer : Answer). AppendsFront new end (waiting ++ spelled answer.lines)) (sym (ap (answer_ahead t from clock) first ∙ answer_next t from clock x more)) (front_lines new end waiting here then_more.lines failed)))

  -- it was written
  pub told_next : (left later : Option Capture) (clock : Option Clock) (old new end : Option (List ℕ)) (waiting waiting' : List ℕ) (x : CapturedWord) (behind : Clock) → Told t from source left clock old new waiting
      → TellsWord left later x → behind ≡ clock_behind t (clock_or clock from x.time) x
      → Gathered new waiting end waiting' (spelled (run_text t (up_to_word t (clock_or clock from x.time) (x.time, (x.bus, x.word)))))
      → Told t from source later (Some behind) old end waiting'
  told_next left later clock old new end waiting waiting' x behind s tells is gathered =
      let here = run_text t (up_to_word t (clock_or clock from x.time) (word_of x)) in
      record {
        done = s.done ++ here;
        gathered = gathered_lines old new end waiting waiting' s.done here s.gathered gathered;
        ahead = λ text at.
            let (rest, left_is, whole) = s.ahead text at in
            let (more, later_is, first) = next left later rest x left_is tells in
            let then_more = answer_ahead t from (Some (clock_behind t (clock_or clock from x.time) x)) more in
            (more, later_is, rw is (whole ∙ ap (after_all s.done) (ap (answer_ahead t from clock) first ∙ answer_next t from clock x more) ∙ after_twice s.done here then_more));
      }

  -- the source gave more, when what waited was pushed
  pub told_pulled : (left later last : Option Capture) (clock : Option Clock) (old new end : Option (List ℕ)) (waiting waiting' : List ℕ) → Told t from source left clock old new waiting
      → Stays left later → Stays later last → Appends new end waiting → waiting' ≡ [] → Told t from source last clock old end waiting'
  told_pulled left later last clock old new end waiting waiting' s kept pulled pushed empty = record {
    done = s.done;
    gathered = gathered_pushed old new end waiting waiting' (spelled s.done) s.gathered pushed empty;
    ahead = λ text is.
        let (rest, at, whole) = s.ahead text is in
        (rest, stayed later last rest (stayed left later rest at kept) pulled, whole);
  }

  -- ---- the same, whatever the source gives

  pub told_some : (left : Option Capture) (clock : Option Clock) (old new end : Option (List ℕ)) (waiting : List ℕ) (last : Answer) (result : Result Outcome Failure) → Told t from source left clock old new waiting
      → Ends new waiting end last result → EndsSome old end result
  told_some left clock old new end waiting last result s ends = some_ends old new end waiting s.done last result s.gathered ends

  -- lines that could not be written
  pub cut_some : (left : Option Capture) (clock : Option Clock) (old new end : Option (List ℕ)) (waiting : List ℕ) (lines : List (List ℕ)) (failure : Failure) → Told t from source left clock old new waiting
      → AppendsFront new end (waiting ++ spelled lines) → failure ≡ Sink → EndsSome old end (Err failure)
  cut_some left clock old new end waiting lines failure s failed is =
      let last : Answer = record { lines = lines; outcome = Done } in
      rw is (told_some left clock old new end waiting last (Err Sink) s failed)

-- nothing was written
pub none_written : (t : TableRows) (from : Option ℕ) (source old : Option (List ℕ)) → IfSome source (λ text. WritesCapture t from text old old (Err Memory))
none_written t from source old = by_text source (λ text. WritesCapture t from text old old (Err Memory)) (λ text is. (0, Appends-nil old))

-- ---- how often the source is asked

-- a reader that tells a word had not stopped
pub not_stopped : (stopped : Option CaptureStop) (reported : Result CapturedWord CaptureStop) (x : CapturedWord) (old new : Reading) → reported ≡ Ok x
    → IfSome stopped (λ stop. (Some reported ≡ Some (Err stop)) × (new ≡ old)) → stopped ≡ None
not_stopped None reported x old new is again = refl
not_stopped (Some stop) reported x old new is (same, kept) = absurd (cc)

-- needing more leaves no more to pull
pub pulls_needed : (stopped stopped' : Option CaptureStop) (held held' : List ℕ) (room room' : ℕ) → stopped ≡ None → stopped' ≡ None → held' ≡ [] → length held + room' ≡ room
    → pulls_left stopped' room' held' ≤ pulls_left stopped room held
pulls_needed stopped stopped' [] held' room room' a b c e = rw (a, b, c) (omega (arith, e))
pulls_needed stopped stopped' (x ∷ xs) held' room room' a b c e = rw (a, b, c) (omega (arith, e))

-- nor does a word that was reported
pub pulls_reported : (stopped stopped' : Option CaptureStop) (held held' : List ℕ) (room room' : ℕ) → stopped ≡ None → stopped' ≡ None → room' < room
    → pulls_left stopped' room' held' ≤ pulls_left stopped room held
pulls_reported stopped stopped' held [] room room' a b e = rw (a, b) (omega (arith, e))
pulls_reported stopped stopped' held (x ∷ xs) room room' a b e = rw (a, b) (omega (arith, e))
