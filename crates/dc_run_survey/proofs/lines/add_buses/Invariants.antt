use Rattle.std.proofs.Common.{◌≡◌}
use Rattle.dc_run_survey.specs.Lines.{bus_line, first_lines, parted}
use Rattle.dc_run_survey.proofs.lines.add_buses.Given as goal

abbrev pub invariant-loop-bus : goal.invariant-loop-bus
invariant-loop-bus l = l.page ≡ parted (first_lines (bus_line l.tables l.survey) l.bus)
