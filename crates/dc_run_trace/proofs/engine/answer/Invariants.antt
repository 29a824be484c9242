use Rattle.std.proofs.Common.{◌≡◌, ◌+◌, ◌*◌, ◌≤◌, ◌<◌}
use Rattle.dc_capture.specs.Reading.{ahead, dry_left, failures_at, pulls_left, waits}
use Rattle.dc_capture.specs.declared.capture_lines.TheConstants.{CAPTURE_LIMIT}
use Rattle.dc_run_trace.proofs.Told.{Told, steps}
use Rattle.dc_run_trace.proofs.engine.answer.Given as goal

abbrev pub invariant-loop-writer : goal.invariant-loop-writer
invariant-loop-writer g l = record {
  told : Told l.tables l.from (g.C.Source.state l.fn.capture).remaining (ahead l.lines (g.C.Source.state l.capture).remaining) l.clock (g.K.Sink.state l.fn.sink).contents (g.K.Sink.state l.sink).contents l.writer;
  tables : l.lines.tables ≡ l.tables;
  source : (g.C.Source.state l.capture).failed ≡ (g.C.Source.state l.fn.capture).failed + failures_at l.lines.stopped;
  sink : (g.K.Sink.state l.sink).failed ≡ (g.K.Sink.state l.fn.sink).failed;
  asks : (g.C.Source.state l.capture).asked + pulls_left l.lines.stopped l.lines.room l.lines.held ≤ (g.C.Source.state l.fn.capture).asked + (CAPTURE_LIMIT + 1);
  dry : (g.C.Source.state l.capture).dry + dry_left l.lines.stopped ≤ (g.C.Source.state l.fn.capture).dry + 1;
}

abbrev pub decreases-loop-writer : goal.decreases-loop-writer
decreases-loop-writer g l = steps l.lines.stopped (2 * l.lines.room + waits l.lines.held)
