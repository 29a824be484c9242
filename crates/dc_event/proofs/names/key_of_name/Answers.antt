use Rattle.std.proofs.Common.{◌≡◌, ◌<◌, arith, get_or, sym}
use Rattle.dc_event.proofs.FoundNames.{fits_key, key-none, key_more, letters_more, room_more}
use Rattle.dc_event.proofs.names.key_of_name.Goals as goal

pub loop-letter-init : goal.loop-letter-init
loop-letter-init c = record { small = omega arith; letters = tt; is = sym key-none }

pub overflow_mul-key : goal.overflow_mul-key
overflow_mul-key c =
    let h = fits_key c.loop-letter.key c.loop-letter.letter-index 0 c.loop-letter.invariant.small (omega arith) (omega arith) in
    omega (arith, h)

pub overflow_add-key : goal.overflow_add-key
overflow_add-key c =
    let byte : c.from.result < 256 = omega (arith, c.type_inv.name c.loop-letter.letter-index) in
    let h = fits_key c.loop-letter.key c.loop-letter.letter-index c.from.result c.loop-letter.invariant.small byte (omega arith) in
    omega (arith, h)

pub loop-letter-preserved : goal.loop-letter-preserved
loop-letter-preserved c =
    let read : c.from.result ≡ get_or c.args.name.now c.loop-letter.letter-index 0 = omega arith in
    let byte : get_or c.args.name.now c.loop-letter.letter-index 0 < 256 = omega (arith, c.type_inv.name c.loop-letter.letter-index) in
    record {
      small = room_more c.loop-letter.key c.loop-letter.letter-index c.from.result c.loop-letter.invariant.small (omega arith);
      letters = letters_more c.args.name.now c.loop-letter.letter-index c.loop-letter-test.true c.if-letter-le32.false byte c.loop-letter.invariant.letters;
      is = key_more c.args.name.now c.loop-letter.key c.loop-letter.letter-index c.from.result c.loop-letter-test.true read c.loop-letter.invariant.is;
    }
