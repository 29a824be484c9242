use Rattle.std.proofs.Common.{◌≡◌, ◌++◌, List}
use Rattle.dc_cert.specs.Bounds.{certificate_rows}
use Rattle.dc_event.specs.declared.event.Event.{Event}
use Rattle.dc_observe.specs.Near.{IsNearness}
use Rattle.dc_run_observe.specs.Lines.{input_lines, output_line}
use Rattle.dc_run_survey.specs.Lines.{first_lines, parted}
use Rattle.dc_run_observe.proofs.lines.add_outputs.Given as goal

abbrev pub invariant-loop-output : goal.invariant-loop-output
invariant-loop-output l = (run : List Event) → IsNearness l.tables l.near run
    → l.page ≡ parted (input_lines l.tables (certificate_rows l.certificate) run ++ first_lines (output_line l.tables (certificate_rows l.certificate) run) l.output)
