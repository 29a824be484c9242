use Rattle.std.proofs.Common.{[]}
use Rattle.dc_run_survey.specs.Lines.{bus_line, first_lines}
use Rattle.dc_run_survey.proofs.Parting.{first-count, lines-more}
use Rattle.dc_run_survey.proofs.lines.add_buses.Goals as goal

pub loop-bus-init : goal.loop-bus-init
unfolding first_lines
loop-bus-init c = c.requires.empty

pub loop-bus-preserved : goal.loop-bus-preserved
loop-bus-preserved c =
    let line = bus_line c.args.tables.now c.args.survey.now in
    lines-more line [] c.loop-bus.bus c.loop-bus.bus c.loop-bus.page c.add_feed.new.page c.add_bus.new.page (first-count line c.loop-bus.bus) c.loop-bus.invariant
    c.in_ok-add_feed.ensures c.in_ok-add_bus.ensures
