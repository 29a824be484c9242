-- The run that a recorded trace tells.
use Rattle.std.specs.Prelude.{◌+◌, ℕ, nat_lt, Bool, ◌&&◌, not, if◌then◌else◌, Option, Some, None, List, length, Result, Ok, Err}
use Rattle.dc_event.specs.TraceText.{Trace, trace_of}
use Rattle.dc_event.specs.declared.event.Event.{Event}
use Rattle.dc_event.specs.declared.trace.LineRule.TheVariants.{LineTooLong}
use Rattle.dc_event.specs.declared.trace.TraceFault.{TraceFault}
use Rattle.dc_tables.specs.TableRows.{TableRows}
use Rattle.dc_run.specs.Limits.{trace_limit}
use Rattle.dc_run_audit.specs.declared.follow.TheConstants.{MOST_EVENTS}

-- the events before a fault, where there is none
abbrev pub unless_faulty : List Event → Option TraceFault → Result (List Event) TraceFault
unless_faulty events None = Ok events
unless_faulty events (Some fault) = Err fault

-- The run that a trace tells, or its first fault: after the most events a line is one too many, where a long run is not
-- asked for.
abbrev pub run_reported : Bool → Trace → Result (List Event) TraceFault
run_reported long trace =
    if not long && nat_lt MOST_EVENTS (length trace.events) then Err (record { rule = LineTooLong; line = MOST_EVENTS + 1 })
    else unless_faulty trace.events trace.fault

-- the same of a text within the limit of a trace
abbrev pub run_of : Bool → TableRows → List ℕ → Result (List Event) TraceFault
run_of long t text = run_reported long (trace_of t (trace_limit long) text)
