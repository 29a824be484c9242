-- A trace that is read event by event, and what is left of it.
use Rattle.std.proofs.Common.{◌≡◌, ℕ, ◌+◌, ◌<◌, ◌≤◌, List, [], ◌∷◌, ◌++◌, length, refl, sym, ◌∙◌, ap, append_assoc, arith, Option, Some, None, IfSome, Result, Ok, Err}
use Rattle.dc_event.specs.Reading.{IsOver, Reading, Stays, TellsEvent, event_in_front, no_more, pulls_left}
use Rattle.dc_event.specs.TraceText.{Trace}
use Rattle.dc_event.specs.declared.event.Event.{Event}
use Rattle.dc_event.specs.declared.trace.TraceFault.{TraceFault}
use Rattle.dc_event.specs.declared.trace.TraceStop.{TraceStop}

-- a trace that begins with these events
abbrev pub behind : List Event → Trace → Trace
behind done rest = record { events = done ++ rest.events; fault = rest.fault }

-- ---- what is left of a trace

pub over : (left : Option Trace) (rest : Trace) (fault : Option TraceFault) → left ≡ Some rest → IsOver left fault → rest ≡ no_more fault
over None rest fault at h = cc
over (Some t) rest fault at h = cc

pub next : (left later : Option Trace) (rest : Trace) (e : Event) → left ≡ Some rest → TellsEvent left later e
    → (more : Trace) × (later ≡ Some more) × (rest ≡ event_in_front e more)
next None later rest e at h = cc
next (Some t) later rest e at (more, is, whole) = (more, is, cc)

pub stayed : (left later : Option Trace) (rest : Trace) → left ≡ Some rest → Stays left later → later ≡ Some rest
stayed None later rest at h = cc
stayed (Some t) later rest at h = cc

-- the trace after one more event
pub behind_next : (done : List Event) (e : Event) (trace rest more : Trace) → trace ≡ behind done rest → rest ≡ event_in_front e more → trace ≡ behind (done ++ e ∷ []) more
behind_next done e trace rest more whole first =
    whole ∙ ap (λ r. behind done r) first ∙ ap (λ es. let t : Trace = record { events = es; fault = more.fault } in t) (sym (append_assoc done (e ∷ []) more.events))

-- ---- the rounds of a reader

-- how many rounds a reader makes at most
abbrev pub steps : Option TraceStop → ℕ → ℕ
steps None n = n + 1
steps (Some stop) n = 0

-- a reader that tells an event had not stopped
pub not_stopped : (stopped : Option TraceStop) (reported : Result Event TraceStop) (e : Event) (old new : Reading) → reported ≡ Ok e
    → IfSome stopped (λ stop. (Some reported ≡ Some (Err stop)) × (new ≡ old)) → stopped ≡ None
not_stopped None reported e old new is again = refl
not_stopped (Some stop) reported e old new is (same, kept) = absurd (cc)

-- needing more leaves no more to pull
pub pulls_needed : (stopped stopped' : Option TraceStop) (held held' : List ℕ) (room room' : ℕ) → stopped ≡ None → stopped' ≡ None → held' ≡ [] → length held + room' ≡ room
    → pulls_left stopped' room' held' ≤ pulls_left stopped room held
pulls_needed stopped stopped' [] held' room room' a b c e = rw (a, b, c) (omega (arith, e))
pulls_needed stopped stopped' (x ∷ xs) held' room room' a b c e = rw (a, b, c) (omega (arith, e))

-- nor does an event that was reported
pub pulls_reported : (stopped stopped' : Option TraceStop) (held held' : List ℕ) (room room' : ℕ) → stopped ≡ None → stopped' ≡ None → room' < room
    → pulls_left stopped' room' held' ≤ pulls_left stopped room held
pulls_reported stopped stopped' held [] room room' a b e = rw (a, b) (omega (arith, e))
pulls_reported stopped stopped' held (x ∷ xs) room room' a b e = rw (a, b) (omega (arith, e))
