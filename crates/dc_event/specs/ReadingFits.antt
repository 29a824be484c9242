-- What holds between the parts of a reader that has not stopped.
use Rattle.std.specs.Prelude.{ℕ, ◌+◌, ◌^◌, ◌<◌, List, length, Option, Some, None}
use Rattle.dc_device.specs.Lines.{NoFeed}
use Rattle.dc_event.specs.declared.trace.TraceStop.{TraceStop}

-- the running line has no line feed yet, and its number can be counted on to the end of the text
abbrev pub Fits : Option TraceStop → List ℕ → ℕ → ℕ → Type 0
Fits None line room number = NoFeed line × (number + (room + length line) < 2 ^ 64)
Fits (Some stop) line room number = Unit {0}
