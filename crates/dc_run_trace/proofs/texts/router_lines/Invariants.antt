use Rattle.std.proofs.Common.{◌≡◌}
use Rattle.dc_device.specs.Lines.{spelled}
use Rattle.dc_event.specs.Steady.{each_below, router_steps}
use Rattle.dc_run_trace.specs.Lines.{run_text}
use Rattle.dc_run_trace.proofs.texts.router_lines.Given as goal

abbrev pub invariant-loop-router : goal.invariant-loop-router
invariant-loop-router l = l.lines.items ≡ spelled (run_text l.tables (each_below (router_steps l.tables) l.router))
