use Rattle.std.proofs.Common.{◌≡◌, ◌++◌, [], subst, Ok}
use Rattle.std.specs.Prelude.{IfOk}
use Rattle.dc_cert.specs.Bounds.{certificate_rows}
use Rattle.dc_run_observe.specs.Lines.{input_line}
use Rattle.dc_run_survey.specs.Lines.{first_lines}
use Rattle.dc_run_survey.proofs.Parting.{first-count, lines-more}
use Rattle.dc_run_observe.proofs.lines.add_inputs.Goals as goal

pub loop-bus-init : goal.loop-bus-init
unfolding first_lines
loop-bus-init c = λ run h. c.requires.empty

pub loop-bus-preserved : goal.loop-bus-preserved
loop-bus-preserved c = λ run h.
    let line = input_line c.args.tables.now (certificate_rows c.args.certificate.now) run in
    lines-more line [] c.loop-bus.bus c.loop-bus.bus c.loop-bus.page c.add_feed.new.page c.add_input.new.page (first-count line c.loop-bus.bus) (c.loop-bus.invariant run h)
    c.in_ok-add_feed.ensures (c.in_ok-add_input.ensures run h)
