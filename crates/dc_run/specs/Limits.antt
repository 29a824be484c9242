-- How much of a recorded trace is read.
use Rattle.std.specs.Prelude.{ℕ, Bool, true, false}
use Rattle.dc_event.specs.declared.trace_reader.TheConstants.{TRACE_LIMIT}
use Rattle.dc_run.specs.declared.limits.TheConstants.{LONG_TRACE_LIMIT}

-- how many bytes a trace may have: more, where a long run is asked for
abbrev pub trace_limit : Bool → ℕ
trace_limit false = TRACE_LIMIT
trace_limit true = LONG_TRACE_LIMIT
