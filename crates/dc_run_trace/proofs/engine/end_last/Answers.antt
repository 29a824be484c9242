use Rattle.dc_run_trace.proofs.Told.{ends_behind, front_lines}
use Rattle.dc_run_trace.specs.Lines.{run_text}
use Rattle.dc_run_trace.specs.Steps.{last_tick, stop_end}
use Rattle.dc_run_trace.proofs.engine.end_last.Goals as goal

pub returns-in-Err-clause-bytes : goal.returns-in-Err-clause-bytes
returns-in-Err-clause-bytes g c = front_lines _ _ c.args.writer.now (run_text c.args.texts.now (last_tick c.args.texts.now c.args.clock)) (stop_end c.args.stop).lines c.in-Err.ensures.bytes.0

pub returns-in-Ok-clause-bytes : goal.returns-in-Ok-clause-bytes
returns-in-Ok-clause-bytes g c = ends_behind _ _ _ c.args.writer.now _ (run_text c.args.texts.now (last_tick c.args.texts.now c.args.clock)) (stop_end c.args.stop) c.end_by.result c.in-Ok.ensures.bytes c.end_by.ensures.bytes
