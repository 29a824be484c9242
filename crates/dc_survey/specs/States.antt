-- How streams and wires kept what they declare, over the whole capture.
use Rattle.std.specs.Prelude.{◌≡◌, ◌≢◌, ℕ, ◌==◌, if◌then◌else◌, true, false, Option, Some, None, List, []}
use Rattle.dc_bound.specs.Window.{HoldAtMost, ticks_of}
use Rattle.dc_tables.specs.TableRows.{TableRows, bus_row, is_policed}
use Rattle.dc_gauge.specs.Gauges.{KeepsTiming}
use Rattle.dc_gauge.specs.Times.{BreaksAt}
use Rattle.dc_gauge.specs.declared.timing.StreamTiming.{StreamTiming}
use Rattle.dc_survey.specs.Captures.{picked, of_stream, offered_on}
use Rattle.dc_survey.specs.Surveys.{bus_gauge, stream_gauge}
use Rattle.dc_survey.specs.declared.states.PaceState.{PaceState}
use Rattle.dc_survey.specs.declared.states.PaceState.TheVariants.{Kept as PaceKept, EarlyAt, Silent}
use Rattle.dc_survey.specs.declared.states.WireState.{WireState}
use Rattle.dc_survey.specs.declared.states.WireState.TheVariants.{Kept as WireKept, BrokenAt, Policed}
use Rattle.dc_survey.specs.declared.survey.Survey.{Survey}

-- the words of a bus that are offered to its streams keep the spacing of its wire, or break it first at a line, where it is not policed
abbrev pub IsWireState : TableRows → ℕ → List (ℕ × (ℕ × ℕ)) → WireState → Type 0
IsWireState t b capture WireKept = (is_policed t b ≡ false) × HoldAtMost 1 (bus_row t b).spacing (ticks_of (picked (offered_on t b) capture))
IsWireState t b capture (BrokenAt line) = (is_policed t b ≡ false) × BreaksAt (HoldAtMost 1 (bus_row t b).spacing) (picked (offered_on t b) capture) (Some line)
IsWireState t b capture Policed = is_policed t b ≡ true

-- the words of a stream keep this timing, or break it first at a line; or none came
abbrev pub IsPaceState : TableRows → ℕ → StreamTiming → List (ℕ × (ℕ × ℕ)) → PaceState → Type 0
IsPaceState t s timing capture PaceKept = (picked (of_stream t s) capture ≢ []) × KeepsTiming timing (ticks_of (picked (of_stream t s) capture))
IsPaceState t s timing capture (EarlyAt line) = BreaksAt (KeepsTiming timing) (picked (of_stream t s) capture) (Some line)
IsPaceState t s timing capture Silent = picked (of_stream t s) capture ≡ []

-- ---- by the numbers of a survey

-- a wire that is asked for its spacing is kept, or broken at a line
abbrev pub unless_broken : Option ℕ → WireState
unless_broken None = WireKept
unless_broken (Some line) = BrokenAt line

-- the state of a wire
abbrev pub wire_state_of : TableRows → Survey → ℕ → WireState
wire_state_of t w b = if is_policed t b then Policed else unless_broken (bus_gauge w b).wire.broken

-- a stream of which words came keeps its timing, or is early at a line
abbrev pub unless_early : Option ℕ → PaceState
unless_early None = PaceKept
unless_early (Some line) = EarlyAt line

-- the state of a stream
abbrev pub pace_state_of : Survey → ℕ → PaceState
pace_state_of w s = if (stream_gauge w s).words == 0 then Silent else unless_early (stream_gauge w s).early
