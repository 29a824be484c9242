-- What everyone saw when a source was asked for more.
use Rattle.std.proofs.Common.{◌≡◌, ℕ, ◌+◌, ◌<◌, ◌≤◌, Bool, List, [], ◌∷◌, ◌++◌, append-nil, refl, sym, ◌∙◌, ap, subst, arith, length, Option, Some, None, IfSome}
use Rattle.std.specs.Io.KnownBytes.{Appends}
use Rattle.dc_device.specs.Device.{IsSnapshot}
use Rattle.dc_device.specs.Lines.{spelled}
use Rattle.dc_tables.specs.TableRows.{TableRows}
use Rattle.dc_event.specs.Reading.{Reading, StopsBehind, ahead, dry_left, failures_at, reported_from, stop_behind}
use Rattle.dc_event.specs.ReplyText.{run_lines}
use Rattle.dc_event.specs.TraceText.{Trace, ended_by, trace_of}
use Rattle.dc_event.specs.declared.event.Event.{Event}
use Rattle.dc_event.specs.declared.trace.TraceStop.{TraceStop}
use Rattle.dc_event.specs.declared.trace.TraceStop.TheVariants.{End, Fault, Broken}
use Rattle.dc_answer.specs.lemmas.Endings.{by_text}
use Rattle.dc_run.specs.Replay.{ShowsTrace}
use Rattle.dc_run.specs.declared.steps.Progress.{Progress}
use Rattle.dc_run.specs.lemmas.Traces.{behind}
use Rattle.dc_run.proofs.Said.{Said}

-- all that the sink holds was seen
pub seen_all : (a c seen : Option (List ℕ)) (xs : List ℕ) → Appends a c xs → IsSnapshot c seen → IfSome seen (λ bytes. Appends a (Some bytes) xs)
seen_all a c None xs p snapshot = tt
seen_all a c (Some bytes) xs p snapshot = subst (λ k. Appends a k xs) snapshot p

-- ---- behind the end of a trace

ended_rest : (stopped : Option TraceStop) (t : TableRows) (room number n : ℕ) (text line : List ℕ) → stopped ≡ Some (stop_behind n line) → reported_from stopped t room number text ≡ ended_by n line
ended_rest stopped t room number n text [] is = rw is refl
ended_rest stopped t room number n text (c ∷ cs) is = rw is refl

ended_ahead : (r : Reading) (coming : Option (List ℕ)) (rest : Trace) (n : ℕ) (line : List ℕ) → r.stopped ≡ Some (stop_behind n line) → ahead r coming ≡ Some rest → rest ≡ ended_by n line
ended_ahead r None rest n line is at = cc
ended_ahead r (Some xs) rest n line is at =
    let e : reported_from r.stopped r.tables (r.room + length r.line) r.number ((r.line ++ r.held) ++ xs) ≡ rest = cc in
    sym e ∙ ended_rest r.stopped r.tables (r.room + length r.line) r.number n ((r.line ++ r.held) ++ xs) line is

ended_events : (n : ℕ) (line : List ℕ) → (ended_by n line).events ≡ []
ended_events n [] = refl
ended_events n (c ∷ cs) = refl

behind_ended : (done : List Event) (n : ℕ) (line : List ℕ) → behind done (ended_by n line) ≡ (let t : Trace = record { events = done; fault = (ended_by n line).fault } in t)
behind_ended done n line = ap (λ es. let t : Trace = record { events = es; fault = (ended_by n line).fault } in t) (ap (λ es. done ++ es) (ended_events n line) ∙ append-nil done)

module _ (t : TableRows) (limit : ℕ) (all : Bool) (from : Option (List ℕ)) where
  -- the trace ended behind this line
  ended_shown : (r : Reading) (coming : Option (List ℕ)) (p : Progress) (old end seen : Option (List ℕ)) (waiting : List ℕ) (n : ℕ) (line : List ℕ) → Said t limit all from (ahead r coming) p old end waiting
      → waiting ≡ [] → r.stopped ≡ Some (stop_behind n line) → IsSnapshot end seen → IfSome from (λ text. ShowsTrace t limit all text old seen)
  ended_shown r coming p old end seen waiting n line said empty stops snapshot = by_text from (λ text. ShowsTrace t limit all text old seen) (λ text is.
      let (rest, at, whole) = said.ahead text is in
      let (front, pushed, joined) = said.gathered in
      let lines : front ≡ spelled (run_lines t all said.done) = sym (append-nil front) ∙ ap (λ w. front ++ w) (sym empty) ∙ joined in (
        said.done,
        (n, line, whole ∙ ap (λ r. behind said.done r) (ended_ahead r coming rest n line stops at) ∙ behind_ended said.done n line, said.follow),
        seen_all old end seen (spelled (run_lines t all said.done)) (subst (Appends old end) lines pushed) snapshot,
      ))

  -- the source was asked for more: if it gave no byte and did not fail, the trace ended
  pub pull_shown : (r : Reading) (stopped : Option TraceStop) (coming : Option (List ℕ)) (p : Progress) (old end seen : Option (List ℕ)) (waiting : List ℕ) (n : ℕ) (line : List ℕ) (dry dry' failed failed' : ℕ)
      → r.stopped ≡ stopped → Said t limit all from (ahead r coming) p old end waiting → waiting ≡ [] → StopsBehind n line stopped → IsSnapshot end seen
      → dry' + dry_left stopped ≤ dry + 1 → failed' ≡ failed + failures_at stopped
      → dry < dry' → failed' ≡ failed → IfSome from (λ text. ShowsTrace t limit all text old seen)
  pull_shown r None coming p old end seen waiting n line dry dry' failed failed' is said empty stops snapshot less count more same = absurd (omega (arith, less, more))
  pull_shown r (Some End) coming p old end seen waiting n line dry dry' failed failed' is said empty stops snapshot less count more same =
      ended_shown r coming p old end seen waiting n line said empty (is ∙ ap Some stops) snapshot
  pull_shown r (Some (Fault f)) coming p old end seen waiting n line dry dry' failed failed' is said empty stops snapshot less count more same =
      ended_shown r coming p old end seen waiting n line said empty (is ∙ ap Some stops) snapshot
  pull_shown r (Some Broken) coming p old end seen waiting n line dry dry' failed failed' is said empty stops snapshot less count more same = absurd (omega (arith, count, same))
