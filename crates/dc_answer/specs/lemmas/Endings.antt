-- How each exit of an engine ends the answer.
use Rattle.std.proofs.Common.{◌≡◌, ◌≢◌, ℕ, Bool, ◌+◌, ◌-◌, ◌<◌, ◌≤◌, List, [], ◌∷◌, ◌++◌, length, refl, sym, ◌∙◌, ap, subst, append_assoc, append-nil, arith, true, false, take, Option, Some, None, IfErr, IfOk, IfSome, Result, Ok, Err, inl, inr}
use Rattle.std.proofs.KnownBytes.{Appends-nil, Appends-trans}
use Rattle.std.proofs.Math.Seq.{take-append-add}
use Rattle.std.specs.Io.KnownBytes.{Appends}
use Rattle.dc_device.specs.Bytes.{AppendsFront, Gathered, Writes}
use Rattle.dc_device.specs.Device.{Settles, failures_of}
use Rattle.dc_device.specs.Lines.{spelled}
use Rattle.dc_device.specs.lemmas.Known.{front_after, front_more}
use Rattle.dc_device.specs.lemmas.LineLemmas.{spelled-append}
use Rattle.dc_answer.specs.Answer.{Answer, Asks, Causes, Ends, EndsSome, LeavesSink, Reports, cut_short, after_all, failed_by, failure_text, nothing, sink_failures_of}
use Rattle.dc_answer.specs.Exits.{exit_with}
use Rattle.dc_answer.specs.declared.answer.Failure.{Failure}
use Rattle.dc_answer.specs.declared.answer.Failure.TheVariants.{Source, Sink, Memory}
use Rattle.dc_answer.specs.declared.exit.Exit.TheVariants.{Failed}
use Rattle.dc_answer.specs.declared.exit.Outcome.{Outcome}
use Rattle.dc_answer.specs.declared.exit.Outcome.TheVariants.{Done as WasDone, Refused as WasRefused, Unreadable as WasUnreadable}

-- a last write after what was gathered
pub writes_after : {T E : Type 0} (r s t : Option (List ℕ)) (a b xs : List ℕ) (result : Result T E) → Gathered r a s b xs → Writes s t b result
    → Writes r t (a ++ xs) result
writes_after r s t a b xs (Ok x) (front, p, whole) q = subst (Appends r t) whole (Appends-trans r s t front b p q)
writes_after r s t a b xs (Err e) (front, p, whole) q = subst (AppendsFront r t) whole (front_after r s t front b p q)

-- joined lines, after what waits
joined : (front waiting : List ℕ) (done more : List (List ℕ)) → front ++ waiting ≡ spelled done → front ++ (waiting ++ spelled more) ≡ spelled (done ++ more)
joined front waiting done more e =
    sym (append_assoc front waiting (spelled more)) ∙ ap (λ l. l ++ spelled more) e ∙ sym (spelled-append done more)

-- what was said, and then the rest of the answer
pub ends_after : (a b c : Option (List ℕ)) (waiting : List ℕ) (done : List (List ℕ)) (answer : Answer) (result : Result Outcome Failure)
    → Gathered a [] b waiting (spelled done) → Ends b waiting c answer result → Ends a [] c (after_all done answer) result
ends_after a b c waiting done answer (Ok outcome) (front, p, e) (q, s) =
    (subst (Appends a c) (joined front waiting done answer.lines e) (Appends-trans a b c front (waiting ++ spelled answer.lines) p q), s)
ends_after a b c waiting done answer (Err Source) (front, p, e) (k, q) =
    (length done + k, rw (take-append-add done answer.lines k) (subst (Appends a c) (joined front waiting done (take k answer.lines) e) (Appends-trans a b c front (waiting ++ spelled (take k answer.lines)) p q)))
ends_after a b c waiting done answer (Err Memory) (front, p, e) (k, q) =
    (length done + k, rw (take-append-add done answer.lines k) (subst (Appends a c) (joined front waiting done (take k answer.lines) e) (Appends-trans a b c front (waiting ++ spelled (take k answer.lines)) p q)))
ends_after a b c waiting done answer (Err Sink) (front, p, e) q =
    subst (AppendsFront a c) (joined front waiting done answer.lines e) (front_after a b c front (waiting ++ spelled answer.lines) p q)

pub by_text : (r : Option (List ℕ)) (P : List ℕ → Type 0) → ((text : List ℕ) → r ≡ Some text → P text) → IfSome r P
by_text None P f = tt
by_text (Some text) P f = f text refl

-- a source or a sink that failed
pub ask_ends : (answer : Answer) (r s : Option (List ℕ)) (bytes : List ℕ) (a b : Option (List ℕ)) (waiting : List ℕ) (failure : Failure)
    → Asks r s bytes a b waiting (Err failure) → Ends a waiting b answer (Err failure)
ask_ends answer r s bytes a b waiting Source p = (0, subst (Appends a b) (sym (append-nil waiting)) p)
ask_ends answer r s bytes a b waiting Memory p = absurd p
ask_ends answer r s bytes a b waiting Sink p = front_more a b waiting (spelled answer.lines) p

-- what waited was pushed, and then the rest was written
pub ends_pushed : (a b c : Option (List ℕ)) (waiting : List ℕ) (answer : Answer) (result : Result Outcome Failure) → Appends a b waiting → Ends b [] c answer result
    → Ends a waiting c answer result
ends_pushed a b c waiting answer (Ok outcome) p (q, s) = (Appends-trans a b c waiting (spelled answer.lines) p q, s)
ends_pushed a b c waiting answer (Err Source) p (k, q) = (k, Appends-trans a b c waiting (spelled (take k answer.lines)) p q)
ends_pushed a b c waiting answer (Err Memory) p (k, q) = (k, Appends-trans a b c waiting (spelled (take k answer.lines)) p q)
ends_pushed a b c waiting answer (Err Sink) p q = front_after a b c waiting (spelled answer.lines) p q

pub after_twice : (xs ys : List (List ℕ)) (answer : Answer) → after_all xs (after_all ys answer) ≡ after_all (xs ++ ys) answer
after_twice xs ys answer = ap (λ ls. let r : Answer = record { lines = ls; outcome = answer.outcome } in r) (sym (append_assoc xs ys answer.lines))

-- more lines after those that were said
pub gathered_lines : (a b c : Option (List ℕ)) (waiting waiting' : List ℕ) (done more : List (List ℕ)) → Gathered a [] b waiting (spelled done)
    → Gathered b waiting c waiting' (spelled more) → Gathered a [] c waiting' (spelled (done ++ more))
gathered_lines a b c waiting waiting' done lines (front, p, e) (more, q, f) = (
  front ++ more,
  Appends-trans a b c front more p q,
  append_assoc front more waiting' ∙ ap (λ l. front ++ l) f ∙ sym (append_assoc front waiting (spelled lines)) ∙ ap (λ l. l ++ spelled lines) e
      ∙ sym (spelled-append done lines),
)

-- what waited was pushed
pub gathered_pushed : (a b c : Option (List ℕ)) (waiting waiting' done : List ℕ) → Gathered a [] b waiting done → Appends b c waiting → waiting' ≡ []
    → Gathered a [] c waiting' done
gathered_pushed a b c waiting waiting' done (front, p, whole) pushed empty =
    (front ++ waiting, Appends-trans a b c front waiting p pushed, rw empty (append-nil (front ++ waiting) ∙ whole))

-- whole lines of the answer, and then the line of what failed, or a front of that
cut_written : (a b c : Option (List ℕ)) (answer : Answer) (failure : Failure) (waiting : List ℕ) (k : ℕ) → waiting ≡ []
    → Appends a b (spelled (take k answer.lines)) → Appends b c (waiting ++ (failure_text failure ++ 10 ∷ [])) → Appends a c (spelled (cut_short failure k answer))
cut_written a b c answer failure waiting k empty p q =
    rw (spelled-append (take k answer.lines) (failure_text failure ∷ [])) (Appends-trans a b c (spelled (take k answer.lines)) (failure_text failure ++ 10 ∷ []) p (rw empty at q))

cut_front : (a b c : Option (List ℕ)) (answer : Answer) (failure : Failure) (waiting : List ℕ) (k : ℕ) → waiting ≡ []
    → Appends a b (spelled (take k answer.lines)) → AppendsFront b c (waiting ++ (failure_text failure ++ 10 ∷ [])) → AppendsFront a c (spelled (cut_short failure k answer))
cut_front a b c answer failure waiting k empty p q =
    rw (spelled-append (take k answer.lines) (failure_text failure ∷ [])) (front_after a b c (spelled (take k answer.lines)) (failure_text failure ++ 10 ∷ []) p (rw empty at q))

-- something failed, and its line was written, or not
pub failed_reports : {T E : Type 0} (a b c : Option (List ℕ)) (answer : Answer) (failure : Failure) (waiting : List ℕ) (result : Result T E) (before sink sink' : ℕ)
    → failure ≢ Sink → waiting ≡ [] → Writes b c (waiting ++ (failure_text failure ++ 10 ∷ [])) result → sink ≡ before + sink_failures_of (Err failure) → sink' ≡ sink + failures_of result
    → Ends a [] b answer (Err failure) → Reports a c failure (sink' - before) answer Failed
failed_reports a b c answer Source waiting (Ok x) before sink sink' other empty q was count (k, p) = record {
  done = λ h. absurd (h refl);
  cut = λ _ _. (k, cut_written a b c answer Source waiting k empty p q);
  sink_failed = λ _ h. absurd (omega arith);
}
failed_reports a b c answer Memory waiting (Ok x) before sink sink' other empty q was count (k, p) = record {
  done = λ h. absurd (h refl);
  cut = λ _ _. (k, cut_written a b c answer Memory waiting k empty p q);
  sink_failed = λ _ h. absurd (omega arith);
}
failed_reports a b c answer Source waiting (Err x) before sink sink' other empty q was count (k, p) = record {
  done = λ h. absurd (h refl);
  cut = λ _ h. absurd (omega arith);
  sink_failed = λ _ _. inr (k, cut_front a b c answer Source waiting k empty p q);
}
failed_reports a b c answer Memory waiting (Err x) before sink sink' other empty q was count (k, p) = record {
  done = λ h. absurd (h refl);
  cut = λ _ h. absurd (omega arith);
  sink_failed = λ _ _. inr (k, cut_front a b c answer Memory waiting k empty p q);
}
failed_reports a b c answer Sink waiting result before sink sink' other empty q was count ends = absurd (other refl)

-- an engine that got to its end has not failed
pub not_failed : (outcome : Outcome) → exit_with outcome ≢ Failed
not_failed WasDone e = cc
not_failed WasRefused e = cc
not_failed WasUnreadable e = cc

-- the line of what failed was written, and that is reported
pub loss_reports : {T E : Type 0} (a b c : Option (List ℕ)) (answer : Answer) (ended : Result Outcome Failure) (given failure : Failure) (waiting : List ℕ) (result : Result T E) (before sink sink' : ℕ)
    → ended ≡ Err given → given ≡ failure → failure ≢ Sink → waiting ≡ [] → Writes b c (waiting ++ (failure_text failure ++ 10 ∷ [])) result → sink' ≡ sink + failures_of result
    → sink ≡ before + sink_failures_of ended → Ends a [] b answer ended → Reports a c (failed_by ended) (sink' - before) answer Failed
loss_reports a b c answer ended given failure waiting result before sink sink' is this other empty q count was ends =
    let e : ended ≡ Err failure = is ∙ ap (λ f. let r : Result Outcome Failure = Err f in r) this in
    rw e (failed_reports a b c answer failure waiting result before sink sink' other empty q (subst (λ r. sink ≡ before + sink_failures_of r) e was) count (subst (Ends a [] b answer) e ends))

-- a result that is not the sink's leaves room for a failure
pub sink_of : (source source' sink sink' : ℕ) (ended : Result Outcome Failure) → Causes source source' sink sink' ended → sink' ≡ sink + sink_failures_of ended
sink_of source source' sink sink' (Ok x) c = omega (arith, c.1)
sink_of source source' sink sink' (Err Source) c = omega (arith, c.1)
sink_of source source' sink sink' (Err Sink) c = c.1
sink_of source source' sink sink' (Err Memory) c = omega (arith, c.1)

pub done_left : (before sink : ℕ) (last hidden : Bool) → sink ≡ before → hidden ≡ false → LeavesSink before sink last hidden
done_left before sink last hidden same seen = record { seen = λ _. seen; last = λ other. absurd (other same) }

pub failed_left : (before sink : ℕ) (last hidden : Bool) → sink ≡ before + 1 → last ≡ true → LeavesSink before sink last hidden
failed_left before sink last hidden more is = record { seen = λ same. absurd (omega arith); last = λ _. (more, is) }

-- what failed was reported, or not
pub reported_left : {T E : Type 0} (result : Result T E) (before sink sink' : ℕ) (last hidden : Bool) → sink ≡ before → sink' ≡ sink + failures_of result → Settles result last hidden
    → LeavesSink before sink' last hidden
reported_left (Ok x) before sink sink' last hidden same count settled = done_left before sink' last hidden (omega arith) settled
reported_left (Err e) before sink sink' last hidden same count settled = failed_left before sink' last hidden (omega arith) settled

-- a result of the source or of memory has counted no failure of the sink
pub no_sink_failure : (ended : Result Outcome Failure) (failure given : Failure) (before sink : ℕ) → ended ≡ Err given → given ≡ failure → failure ≢ Sink → sink ≡ before + sink_failures_of ended → sink ≡ before
no_sink_failure ended Source given before sink is this other count = let n = rw (is, this) at count in omega (arith, n)
no_sink_failure ended Memory given before sink is this other count = let n = rw (is, this) at count in omega (arith, n)
no_sink_failure ended Sink given before sink is this other count = absurd (other refl)

-- something was said, and the end
pub some_ends : (a b c : Option (List ℕ)) (waiting : List ℕ) (done : List (List ℕ)) (last : Answer) (result : Result Outcome Failure) → Gathered a [] b waiting (spelled done)
    → Ends b waiting c last result → EndsSome a c result
some_ends a b c waiting done last result gathered ends = (after_all done last, ends_after a b c waiting done last result gathered ends)

pub none_ends : (old : Option (List ℕ)) (failure : Failure) → Ends old [] old nothing (Err failure)
none_ends old Source = (0, Appends-nil old)
none_ends old Memory = (0, Appends-nil old)
none_ends old Sink = ([], [], refl, Appends-nil old)
