-- What has been followed of a trace so far.
use Rattle.std.proofs.Common.{◌≡◌, ◌++◌, ℕ, List, [], ◌∷◌, append-nil, refl, sym, ap, ◌∙◌, subst, Option, Some, None, IfSome}
use Rattle.dc_answer.specs.lemmas.Endings.{by_text}
use Rattle.dc_tables.specs.Named.{HaveNames}
use Rattle.dc_tables.specs.TableRows.{TableRows}
use Rattle.dc_event.specs.Admissible.{IsNumbered, IsRun}
use Rattle.dc_event.specs.Reading.{IsOver, Stays, TellsEvent, no_more}
use Rattle.dc_event.specs.TraceText.{Trace, trace_of}
use Rattle.dc_event.specs.declared.event.Event.{Event}
use Rattle.dc_event.specs.declared.trace.TraceFault.{TraceFault}
use Rattle.dc_observe.specs.Near.{IsNearness}
use Rattle.dc_observe.specs.declared.nearness.Nearness.{Nearness}
use Rattle.dc_run.specs.declared.limits.TheConstants.{LONG_TRACE_LIMIT}
use Rattle.dc_run.specs.lemmas.Numbers.{numbered_within, trace_numbered}
use Rattle.dc_run.specs.lemmas.Traces.{behind, behind_next, next, over, stayed}

-- the trace is a run whose nearness this is, and what is left
pub record Heard (t : TableRows) (from : Option (List ℕ)) (left : Option Trace) (n : Nearness) : Type 0 where
  pub ahead : (text : List ℕ) → from ≡ Some text → (run : List Event) × (rest : Trace) × (left ≡ Some rest) × (trace_of t LONG_TRACE_LIMIT text ≡ behind run rest) × IsNearness t n run

module _ (t : TableRows) (from : Option (List ℕ)) where
  -- nothing was read
  pub heard_first : (left : Option Trace) (n : Nearness) → IsNearness t n [] → ((text : List ℕ) → from ≡ Some text → left ≡ Some (trace_of t LONG_TRACE_LIMIT text)) → Heard t from left n
  heard_first left n near whole = record { ahead = λ text is. ([], trace_of t LONG_TRACE_LIMIT text, whole text is, refl, near) }

  -- the source gave more
  pub heard_pulled : (left later last : Option Trace) (n : Nearness) → Heard t from left n → Stays left later → Stays later last → Heard t from last n
  heard_pulled left later last n h kept pulled = record {
    ahead = λ text is. (let (run, rest, at, whole, near) = h.ahead text is in (run, rest, stayed later last rest (stayed left later rest at kept) pulled, whole, near));
  }

  -- the next event was taken
  pub heard_next : (left later : Option Trace) (n n' : Nearness) (e : Event) → HaveNames t → Heard t from left n → TellsEvent left later e
      → ((run : List Event) → IsNearness t n run → IsNumbered t e → IsNearness t n' (run ++ e ∷ [])) → Heard t from later n'
  heard_next left later n n' e names h reported takes = record {
    ahead = λ text is. (
        let (run, rest, at, whole, near) = h.ahead text is in
        let (more, later_is, first) = next left later rest e at reported in
        let all : trace_of t LONG_TRACE_LIMIT text ≡ behind (run ++ e ∷ []) more = behind_next run e (trace_of t LONG_TRACE_LIMIT text) rest more whole first in
        let events : (trace_of t LONG_TRACE_LIMIT text).events ≡ run ++ e ∷ more.events = ap (λ (r : Trace). r.events) (whole ∙ ap (behind run) first) in
        (run ++ e ∷ [], more, later_is, all, takes run near (numbered_within t run e more.events (subst (IsRun t) events (trace_numbered t names LONG_TRACE_LIMIT text)))));
  }

  -- the trace is over
  pub heard_all : (left : Option Trace) (n : Nearness) (fault : Option TraceFault) → Heard t from left n → IsOver left fault
      → IfSome from (λ text. IsNearness t n (trace_of t LONG_TRACE_LIMIT text).events × (fault ≡ (trace_of t LONG_TRACE_LIMIT text).fault))
  heard_all left n fault h ended = by_text from (λ text. IsNearness t n (trace_of t LONG_TRACE_LIMIT text).events × (fault ≡ (trace_of t LONG_TRACE_LIMIT text).fault)) (λ text is.
      let (run, rest, at, whole, near) = h.ahead text is in
      let all : trace_of t LONG_TRACE_LIMIT text ≡ behind run (no_more fault) = whole ∙ ap (behind run) (over left rest fault at ended) in (
        subst (IsNearness t n) (sym (ap (λ (r : Trace). r.events) all ∙ append-nil run)) near,
        sym (ap (λ (r : Trace). r.fault) all),
      ))
