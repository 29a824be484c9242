use Rattle.std.proofs.Common.{◌≡◌, ◌-◌, ◌≤◌}
use Rattle.dc_device.specs.Bytes.{Gathered}
use Rattle.dc_device.specs.Lines.{spelled}
use Rattle.dc_run_trace.specs.Lines.{run_text}
use Rattle.dc_run_trace.specs.Steps.{steady_from}
use Rattle.dc_run_trace.proofs.engine.write_ticks.Given as goal

abbrev pub invariant-loop-k : goal.invariant-loop-k
invariant-loop-k g l = record {
  after : l.tick ≤ l.k;
  none : l.next ≤ l.tick → l.k ≡ l.tick;
  gathered : Gathered (g.K.Sink.state l.fn.sink).contents l.fn.writer (g.K.Sink.state l.sink).contents l.writer
      (spelled (run_text l.texts (steady_from l.texts l.tick (l.k - l.tick))));
  sink : (g.K.Sink.state l.sink).failed ≡ (g.K.Sink.state l.fn.sink).failed;
}
