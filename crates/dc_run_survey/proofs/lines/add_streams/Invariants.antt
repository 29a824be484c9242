use Rattle.std.proofs.Common.{◌≡◌, ◌++◌}
use Rattle.dc_run_survey.specs.Lines.{bus_lines, first_lines, parted, stream_line}
use Rattle.dc_run_survey.proofs.lines.add_streams.Given as goal

abbrev pub invariant-loop-stream : goal.invariant-loop-stream
invariant-loop-stream l = l.page ≡ parted (bus_lines l.tables l.survey ++ first_lines (stream_line l.tables l.survey) l.stream)
