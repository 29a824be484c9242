use Rattle.std.proofs.Common.{◌<◌, ◌∙◌, arith, length, length-set}
use Rattle.dc_run.proofs.Printed.{keeps_more}
use Rattle.dc_run.proofs.printer.router_texts.Goals as goal

pub loop-router-preserved : goal.loop-router-preserved
loop-router-preserved c =
    let before = c.loop-router.invariant in
    let room : c.loop-router.router < length c.loop-router.texts = omega (arith, before.room, c.valid.ensures.few_routers) in
    record {
      room = length-set c.loop-router.texts c.loop-router.router c.kept.result ∙ before.room;
      kept = keeps_more c.loop-router.texts c.args.tables.now.names.routers c.loop-router.router c.kept.result room before.kept (rw c.router_name.ensures at c.kept.ensures);
    }
