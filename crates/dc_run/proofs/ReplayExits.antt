-- How each exit of a replay ends its answer.
use Rattle.std.proofs.Common.{◌≡◌, ℕ, ◌+◌, ◌≤◌, inl, inr, Bool, true, false, ◌||◌, cond, List, [], ◌∷◌, ◌++◌, length, length-append, ◌^◌, refl, sym, ◌∙◌, ap, subst, append_assoc, append-nil, arith, Option, Some, None, IfSome, Result, Ok, Err}
use Rattle.std.proofs.KnownBytes.{Appends-nil}
use Rattle.std.proofs.lemmas.Grind.{flat_map-append}
use Rattle.std.specs.List.{flat_map}
use Rattle.std.specs.Io.KnownBytes.{Appends}
use Rattle.dc_bound.specs.Places.{each_place}
use Rattle.dc_bound.specs.lemmas.FirstPlaces.{each_place-push}
use Rattle.dc_device.specs.Bytes.{AppendsFront, Gathered}
use Rattle.dc_device.specs.Lines.{spelled}
use Rattle.dc_device.specs.lemmas.Known.{front_more}
use Rattle.dc_tables.specs.TableRows.{TableRows}
use Rattle.dc_bound.specs.Run.{ticks}
use Rattle.dc_event.specs.Reading.{Stays, Tells, TellsEvent, no_more}
use Rattle.dc_event.specs.ReplyText.{event_lines, is_reported, reply_line, run_lines}
use Rattle.dc_event.specs.TraceText.{Trace, trace_of}
use Rattle.dc_event.specs.declared.event.Event.{Event}
use Rattle.dc_event.specs.declared.trace.TraceFault.{TraceFault}
use Rattle.dc_event.specs.declared.trace.TraceStop.{TraceStop}
use Rattle.dc_event.specs.declared.trace.TraceStop.TheVariants.{End, Fault, Broken}
use Rattle.dc_core.specs.Standing.{MayFollow}
use Rattle.dc_answer.specs.Answer.{Answer, Ends, EndsSome, after_all, nothing}
use Rattle.dc_answer.specs.Exits.{is_whole}
use Rattle.dc_answer.specs.declared.exit.Outcome.{Outcome}
use Rattle.dc_answer.specs.declared.exit.Outcome.TheVariants.{Done}
use Rattle.dc_run.specs.Refusals.{StopsBy, refused, stop_end}
use Rattle.dc_run.specs.Replay.{AllFollow, EndsBy, GoesOn, WritesTrace}
use Rattle.dc_run.specs.Steps.{StandsAt, Steps}
use Rattle.dc_answer.specs.declared.answer.Failure.{Failure}
use Rattle.dc_answer.specs.declared.answer.Failure.TheVariants.{Sink, Memory}
use Rattle.dc_run.specs.declared.steps.Progress.{Progress}
use Rattle.dc_run.specs.declared.steps.Refusal.{Refusal}
use Rattle.dc_run.specs.declared.steps.Step.{Step}
use Rattle.dc_answer.specs.lemmas.Endings.{by_text, ends_after, gathered_lines, gathered_pushed, some_ends}
use Rattle.dc_run.specs.lemmas.Traces.{behind_next, next, over, stayed}
use Rattle.dc_run.proofs.Said.{Said}

-- ---- runs

run_lines-nil : (t : TableRows) (all : Bool) → run_lines t all [] ≡ []
unfolding run_lines each_place
run_lines-nil t all = refl

-- one more event
run_lines-push : (t : TableRows) (all : Bool) (done : List Event) (e : Event) → run_lines t all (done ++ e ∷ []) ≡ run_lines t all done ++ event_lines t all done e
unfolding run_lines
run_lines-push t all done e =
    ap (λ l. flat_map (λ ls. ls) l) (each_place-push (event_lines t all) done e)
    ∙ flat_map-append (λ ls. ls) (each_place (event_lines t all) done) (event_lines t all done e ∷ [])
    ∙ ap (λ ls. flat_map (λ ls. ls) (each_place (event_lines t all) done) ++ ls) (append-nil (event_lines t all done e))

follow-push : (t : TableRows) (past done : List Event) (e : Event) → AllFollow t past done → MayFollow t (past ++ done) e → AllFollow t past (done ++ e ∷ [])
follow-push t past [] e all may = (subst (λ p. MayFollow t p e) (append-nil past) may, tt)
follow-push t past (x ∷ xs) e (first, more) may = (first, follow-push t (past ++ x ∷ []) xs e more (subst (λ p. MayFollow t p e) (sym (append_assoc past (x ∷ []) xs)) may))

-- ---- exits

module _ (t : TableRows) (limit : ℕ) (all : Bool) (from : Option (List ℕ)) where
  -- nothing was carried out and nothing was said
  pub said_first : (left : Option Trace) (p : Progress) (old : Option (List ℕ)) (waiting : List ℕ) → StandsAt p [] → waiting ≡ []
      → ((text : List ℕ) → from ≡ Some text → left ≡ Some (trace_of t limit text)) → Said t limit all from left p old old waiting
  said_first left p old waiting at empty whole = record {
    done = [];
    follow = tt;
    at = at;
    gathered = ([], Appends-nil old, rw (empty, run_lines-nil t all) refl);
    ahead = λ text is. (trace_of t limit text, whole text is, refl);
  }

  -- what was said, and the end
  said_ends : (left : Option Trace) (p : Progress) (old new end : Option (List ℕ)) (waiting : List ℕ) (result : Result Outcome Failure) (s : Said t limit all from left p old new waiting)
      → ((rest : Trace) → left ≡ Some rest → (last : Answer) × GoesOn (is_whole result) t s.done rest.events rest.fault last × Ends new waiting end last result)
      → IfSome from (λ text. WritesTrace t limit all text old end result)
  said_ends left p old new end waiting result s f = by_text from (λ text. WritesTrace t limit all text old end result) (λ text is.
      let (rest, at, e) = s.ahead text is in
      let (last, goes, ends) = f rest at in (
        after_all (run_lines t all s.done) last,
        record {
          done = s.done;
          rest = rest.events;
          last = last;
          events = ap (λ (r : Trace). r.events) e;
          follow = s.follow;
          goes_on = subst (λ fault. GoesOn (is_whole result) t s.done rest.events fault last) (sym (ap (λ (r : Trace). r.fault) e)) goes;
          said = refl;
        },
        ends_after old new end waiting (run_lines t all s.done) last result s.gathered ends,
      ))

  pub flush_ends : {E : Type 0} (left : Option Trace) (p : Progress) (old new end : Option (List ℕ)) (waiting : List ℕ) (e : E) → Said t limit all from left p old new waiting
      → AppendsFront new end waiting → IfSome from (λ text. WritesTrace t limit all text old end (Err Sink))
  flush_ends left p old new end waiting e s failed = said_ends left p old new end waiting (Err Sink) s (λ rest at. (nothing, inr refl, front_more new end waiting [] failed))

  goes_either : (whole : Bool) (done rest : List Event) (fault : Option TraceFault) (last : Answer) → EndsBy t done rest fault last → GoesOn whole t done rest fault last
  goes_either true done rest fault last h = h
  goes_either false done rest fault last h = inl h

  over_goes : (whole : Bool) (done : List Event) (rest : Trace) (fault : Option TraceFault) (last : Answer) → rest ≡ no_more fault → EndsBy t done [] fault last
      → GoesOn whole t done rest.events rest.fault last
  over_goes whole done rest fault last is h = subst (λ (r : Trace). GoesOn whole t done r.events r.fault last) (sym is) (goes_either whole done [] fault last h)

  stop_goes : (stop : TraceStop) (result : Result Outcome Failure) (left later : Option Trace) (done : List Event) (rest : Trace) → left ≡ Some rest → Tells left later (Err stop) → StopsBy stop result
      → GoesOn (is_whole result) t done rest.events rest.fault (stop_end stop)
  stop_goes End result left later done rest at reported stops = over_goes (is_whole result) done rest None nothing (over left rest None at reported) refl
  stop_goes (Fault f) result left later done rest at reported stops = over_goes (is_whole result) done rest (Some f) (stop_end (Fault f)) (over left rest (Some f) at reported) refl
  stop_goes Broken (Ok x) left later done rest at reported never = absurd (never refl)
  stop_goes Broken (Err x) left later done rest at reported stops = inr refl

  -- the reader stopped
  pub stop_ends : (left later : Option Trace) (p : Progress) (old new end : Option (List ℕ)) (waiting : List ℕ) (stop : TraceStop) (result : Result Outcome Failure) → Said t limit all from left p old new waiting
      → Tells left later (Err stop) → StopsBy stop result → Ends new waiting end (stop_end stop) result → IfSome from (λ text. WritesTrace t limit all text old end result)
  stop_ends left later p old new end waiting stop result s reported stops ends =
      said_ends left p old new end waiting result s (λ rest at. (stop_end stop, stop_goes stop result left later s.done rest at reported stops, ends))

  -- the next event was refused
  pub refused_ends : (rows : TableRows) (left later : Option Trace) (p p' : Progress) (old new end : Option (List ℕ)) (waiting : List ℕ) (e : Event) (r : Refusal) (result : Result Outcome Failure)
      → rows ≡ t → Said t limit all from left p old new waiting → TellsEvent left later e → ((done : List Event) → StandsAt p done → Steps rows p' done e (Err r))
      → Ends new waiting end (refused t r.event r.fault r.number) result → IfSome from (λ text. WritesTrace t limit all text old end result)
  refused_ends rows left later p p' old new end waiting e r result same s reported steps ends = said_ends left p old new end waiting result s (λ rest at.
      let (more, is, first) = next left later rest e at reported in
      let (never, cause, event, number) = subst (λ rows. Steps rows p' s.done e (Err r)) same (steps s.done s.at) in
      let last : Answer = refused t r.event r.fault r.number in
      let reported : last ≡ refused t e r.fault (length s.done + 1) = ap (λ e. refused t e r.fault r.number) event ∙ ap (λ n. refused t e r.fault n) number in (
        last,
        subst (λ (r : Trace). GoesOn (is_whole result) t s.done r.events r.fault last) (sym first) (goes_either (is_whole result) s.done (e ∷ more.events) more.fault last (r.fault, never, cause, reported)),
        ends,
      ))

  -- the lines that a step prints
  abbrev printed : Step → List (List ℕ)
  printed step = cond (all || is_reported step.reply) (reply_line t step.tick step.event step.reply ∷ []) []

  -- the line of the next event could not be written
  pub say_ends : (rows : TableRows) (left later : Option Trace) (p p' : Progress) (old new end : Option (List ℕ)) (waiting waiting' : List ℕ) (e : Event) (step : Step) (failure : Failure)
      → rows ≡ t → Said t limit all from left p old new waiting → TellsEvent left later e → ((done : List Event) → StandsAt p done → Steps rows p' done e (Ok step))
      → AppendsFront new end (waiting ++ spelled (printed step)) → failure ≡ Sink → IfSome from (λ text. WritesTrace t limit all text old end (Err failure))
  say_ends rows left later p p' old new end waiting waiting' e step failure same s reported steps failed is_sink = rw is_sink (by_text from (λ text. WritesTrace t limit all text old end (Err Sink)) (λ text is.
      let (rest, at, whole) = s.ahead text is in
      let (more, later_is, first) = next left later rest e at reported in
      let (may, stands, step_is) = subst (λ rows. Steps rows p' s.done e (Ok step)) same (steps s.done s.at) in
      let lines : printed step ≡ event_lines t all s.done e = ap printed step_is in
      let tail : Answer = record { lines = event_lines t all s.done e; outcome = Done } in
      let front : AppendsFront old end (spelled (run_lines t all s.done ++ event_lines t all s.done e)) =
      ends_after old new end waiting (run_lines t all s.done) tail (Err Sink) s.gathered (subst (λ ls. AppendsFront new end (waiting ++ spelled ls)) lines failed) in
      let all_lines : run_lines t all s.done ++ event_lines t all s.done e ≡ run_lines t all (s.done ++ e ∷ []) ++ [] = sym (run_lines-push t all s.done e) ∙ sym (append-nil (run_lines t all (s.done ++ e ∷ []))) in (
        after_all (run_lines t all (s.done ++ e ∷ [])) nothing,
        record {
          done = s.done ++ e ∷ [];
          rest = more.events;
          last = nothing;
          events = ap (λ (r : Trace). r.events) (behind_next s.done e (trace_of t limit text) rest more whole first);
          follow = follow-push t [] s.done e s.follow may;
          goes_on = inr refl;
          said = refl;
        },
        subst (λ ls. AppendsFront old end (spelled ls)) all_lines front,
      )))

  -- the line of the next event was written
  pub said_next : (rows : TableRows) (left later : Option Trace) (p p' : Progress) (old new end : Option (List ℕ)) (waiting waiting' : List ℕ) (e : Event) (step : Step)
      → rows ≡ t → Said t limit all from left p old new waiting → TellsEvent left later e → ((done : List Event) → StandsAt p done → Steps rows p' done e (Ok step))
      → Gathered new waiting end waiting' (spelled (printed step)) → Said t limit all from later p' old end waiting'
  said_next rows left later p p' old new end waiting waiting' e step same s reported steps gathered =
      let (may, stands, step_is) = subst (λ rows. Steps rows p' s.done e (Ok step)) same (steps s.done s.at) in
      let lines : printed step ≡ event_lines t all s.done e = ap printed step_is in
      record {
        done = s.done ++ e ∷ [];
        follow = follow-push t [] s.done e s.follow may;
        at = stands;
        gathered = rw (run_lines-push t all s.done e) (gathered_lines old new end waiting waiting' (run_lines t all s.done) (event_lines t all s.done e) s.gathered (subst (λ ls. Gathered new waiting end waiting' (spelled ls)) lines gathered));
        ahead = λ text is.
            let (rest, at, whole) = s.ahead text is in
            let (more, later_is, first) = next left later rest e at reported in
            (more, later_is, behind_next s.done e (trace_of t limit text) rest more whole first);
      }

  -- the source gave more, when what waited was pushed
  pub said_pulled : (left later last : Option Trace) (p : Progress) (old new end : Option (List ℕ)) (waiting waiting' : List ℕ) → Said t limit all from left p old new waiting
      → Stays left later → Stays later last → Appends new end waiting → waiting' ≡ [] → Said t limit all from last p old end waiting'
  said_pulled left later last p old new end waiting waiting' s kept pulled pushed empty = record {
    done = s.done;
    follow = s.follow;
    at = s.at;
    gathered = gathered_pushed old new end waiting waiting' (spelled (run_lines t all s.done)) s.gathered pushed empty;
    ahead = λ text is.
        let (rest, at, whole) = s.ahead text is in
        (rest, stayed later last rest (stayed left later rest at kept) pulled, whole);
  }

  -- ---- the same, whatever the source gives

  pub said_some : (left : Option Trace) (p : Progress) (old new end : Option (List ℕ)) (waiting : List ℕ) (last : Answer) (result : Result Outcome Failure) → Said t limit all from left p old new waiting
      → Ends new waiting end last result → EndsSome old end result
  said_some left p old new end waiting last result s ends = some_ends old new end waiting (run_lines t all s.done) last result s.gathered ends

  -- lines that could not be written
  pub cut_some : (left : Option Trace) (p : Progress) (old new end : Option (List ℕ)) (waiting : List ℕ) (lines : List (List ℕ)) (failure : Failure) → Said t limit all from left p old new waiting
      → AppendsFront new end (waiting ++ spelled lines) → failure ≡ Sink → EndsSome old end (Err failure)
  cut_some left p old new end waiting lines failure s failed is =
      let last : Answer = record { lines = lines; outcome = Done } in
      rw is (said_some left p old new end waiting last (Err Sink) s failed)

  -- nothing was written
  pub none_written : (old : Option (List ℕ)) → IfSome from (λ text. WritesTrace t limit all text old old (Err Memory))
  none_written old = by_text from (λ text. WritesTrace t limit all text old old (Err Memory)) (λ text is. (
    nothing,
    record {
      done = [];
      rest = (trace_of t limit text).events;
      last = nothing;
      events = refl;
      follow = tt;
      goes_on = inr refl;
      said = rw (run_lines-nil t all) refl;
    },
    (0, Appends-nil old),
  ))

-- ---- what the loop keeps

pub at_tick_0 : (p : Progress) → StandsAt p [] → p.tick ≡ 0
unfolding ticks
at_tick_0 p at = at.clock

pub step_early : (rows : TableRows) (p' : Progress) (done : List Event) (e : Event) (step : Step) → Steps rows p' done e (Ok step) → p'.tick ≤ 2 ^ 40
step_early rows p' done e step (may, stands, is) = omega (arith, stands.clock, may.early)

pub step_count : (rows : TableRows) (p p' : Progress) (done : List Event) (e : Event) (step : Step) → StandsAt p done → Steps rows p' done e (Ok step) → p'.number ≡ p.number + 1
step_count rows p p' done e step at (may, stands, is) = omega (arith, at.count, stands.count, length-append done (e ∷ []))
