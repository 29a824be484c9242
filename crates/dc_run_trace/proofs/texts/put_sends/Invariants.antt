use Rattle.std.proofs.Common.{◌≡◌, ◌≤◌, ◌*◌, ◌+◌, length}
use Rattle.dc_device.specs.Lines.{spelled}
use Rattle.dc_document.specs.declared.limits.TheConstants.{NAME_LIMIT}
use Rattle.dc_event.specs.Steady.{each_below, output_steps}
use Rattle.dc_run_trace.specs.Lines.{run_text}
use Rattle.dc_run_trace.proofs.texts.put_sends.Given as goal

abbrev pub invariant-loop-output : goal.invariant-loop-output
invariant-loop-output l = record {
  items : l.sends ≡ spelled (run_text l.tables (each_below (output_steps l.tables l.tick) l.output));
  len : length l.sends ≤ l.output * (NAME_LIMIT + 3);
}
