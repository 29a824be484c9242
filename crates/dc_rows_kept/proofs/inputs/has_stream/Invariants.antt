use Rattle.std.proofs.Common.{◌≡◌, drop}
use Rattle.std.specs.List.{list_any}
use Rattle.dc_rows_kept.specs.Tests.{keeps_input}
use Rattle.dc_rows_kept.proofs.inputs.has_stream.Given as goal

-- what is left decides
abbrev pub invariant-loop-stream : goal.invariant-loop-stream
invariant-loop-stream l = list_any (keeps_input l.parts l.row) (drop l.stream-index l.streams) ≡ list_any (keeps_input l.parts l.row) l.streams
