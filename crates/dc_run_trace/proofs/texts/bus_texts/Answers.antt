use Rattle.std.proofs.Common.{◌<◌, ◌∙◌, arith, length, length-set}
use Rattle.dc_run_trace.proofs.Kept.{keeps_more}
use Rattle.dc_run_trace.proofs.texts.bus_texts.Goals as goal

pub loop-bus-preserved : goal.loop-bus-preserved
loop-bus-preserved c =
    let before = c.loop-bus.invariant in
    let room : c.loop-bus.bus < length c.loop-bus.texts = omega (arith, before.room, c.valid.ensures.few_buses) in
    record {
      room = length-set c.loop-bus.texts c.loop-bus.bus c.kept.result ∙ before.room;
      kept = keeps_more c.loop-bus.texts c.args.tables.now.names.buses c.loop-bus.bus c.kept.result room before.kept (rw c.bus_name.ensures at c.kept.ensures);
    }
