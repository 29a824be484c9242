use Rattle.dc_capture.proofs.CaptureSteps.{end_kept, end_stops}
use Rattle.dc_capture.proofs.capture_lines.CaptureLines.pull.Goals as goal

pub returns-in-Ok-false-clause-kept : goal.returns-in-Ok-false-clause-kept
returns-in-Ok-false-clause-kept g c =
    let fills = rw c.in-Ok-false.field-0-test at c.in-Ok-false.ensures.bytes in
    let short = rw c.as_slice.ensures.value at c.as_slice.ensures.fits in
    let stop = rw c.as_slice.ensures.value at c.end_inside.ensures in
    end_kept c.args.self.now c.self.inside.buses c.self.inside.line.items c.self.inside.reader c.fill.new.self c.self.inside.number c.self.inside.latest c.self.inside.stopped c.end_inside.result _ _
    c.self.view_is c.requires.runs stop c.self.invariant short c.requires.read fills.0 fills.1

pub returns-in-Ok-false-clause-end : goal.returns-in-Ok-false-clause-end
returns-in-Ok-false-clause-end g c =
    let stop = rw c.as_slice.ensures.value at c.end_inside.ensures in
    end_stops c.args.self.now c.self.inside.buses c.self.inside.line.items c.self.inside.reader c.self.inside.number c.self.inside.latest c.self.inside.stopped c.end_inside.result c.self.view_is stop
