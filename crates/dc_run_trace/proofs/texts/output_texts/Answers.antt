use Rattle.std.proofs.Common.{◌<◌, ◌∙◌, arith, length, length-set}
use Rattle.dc_run_trace.proofs.Kept.{keeps_more}
use Rattle.dc_run_trace.proofs.texts.output_texts.Goals as goal

pub loop-output-preserved : goal.loop-output-preserved
loop-output-preserved c =
    let before = c.loop-output.invariant in
    let room : c.loop-output.output < length c.loop-output.texts = omega (arith, before.room, c.valid.ensures.few_outputs) in
    record {
      room = length-set c.loop-output.texts c.loop-output.output c.kept.result ∙ before.room;
      kept = keeps_more c.loop-output.texts c.args.tables.now.names.outputs c.loop-output.output c.kept.result room before.kept (rw c.output_name.ensures at c.kept.ensures);
    }
