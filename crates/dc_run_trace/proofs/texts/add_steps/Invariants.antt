use Rattle.std.proofs.Common.{◌≡◌, ◌++◌, codes, replicate}
use Rattle.dc_device.specs.Lines.{spelled}
use Rattle.dc_document.specs.Names.{text_of}
use Rattle.dc_run_trace.proofs.texts.add_steps.Given as goal

abbrev pub invariant-loop-step : goal.invariant-loop-step
invariant-loop-step l = l.lines.items ≡ l.fn.lines.items ++ spelled (replicate l._step (codes "R " ++ text_of l.name))
