use Rattle.std.proofs.Common.{◌<◌, arith, get_or}
use Rattle.dc_event.proofs.FoundNames.{letters_more}
use Rattle.dc_event.proofs.long_names.are_letters.Goals as goal

pub loop-letter-preserved : goal.loop-letter-preserved
loop-letter-preserved c =
    let byte : get_or c.args.name.now c.loop-letter.letter-index 0 < 256 = omega (arith, c.type_inv.name c.loop-letter.letter-index) in
    letters_more c.args.name.now c.loop-letter.letter-index c.loop-letter-test.true c.if-letter-le32.false byte c.loop-letter.invariant
