use Rattle.std.proofs.Common.{arith, get_or, refl}
use Rattle.dc_seen.proofs.Splitting.{count_more, few_spaces}
use Rattle.dc_seen.proofs.fields.count_fields.Goals as goal

pub loop-c-preserved : goal.loop-c-preserved
loop-c-preserved c =
    let byte = get_or c.args.line.now c.loop-c.c-index 0 in
    record {
      few = omega (arith, c.loop-c.invariant.few, c.spaces-count.ensures, few_spaces byte);
      counted = count_more c.args.line.now c.loop-c.c-index byte c.spaces-count.result c.loop-c.count c.loop-c-test.true refl c.spaces-count.ensures c.loop-c.invariant.counted;
    }
