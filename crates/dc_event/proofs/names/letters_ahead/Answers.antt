use Rattle.std.proofs.Common.{◌≡◌, ◌<◌, arith, get_or, length, sym}
use Rattle.dc_event.proofs.FoundNames.{key-none, key_wrapped, letters_more, room_wrapped}
use Rattle.dc_event.proofs.names.letters_ahead.Goals as goal

pub loop-i-init : goal.loop-i-init
loop-i-init c = record { small = λ few. omega arith; letters = tt; is = λ few. sym key-none }

pub loop-i-preserved : goal.loop-i-preserved
loop-i-preserved c =
    let within : c.loop-i.i < length c.args.text.now = omega arith in
    let read : c.from.result ≡ get_or c.args.text.now c.loop-i.i 0 = omega arith in
    let byte : get_or c.args.text.now c.loop-i.i 0 < 256 = omega (arith, c.type_inv.text c.loop-i.i) in
    record {
      small = λ few. room_wrapped c.loop-i.key c.loop-i.i c.from.result c.loop-i.invariant.small (omega arith) few;
      letters = letters_more c.args.text.now c.loop-i.i within c.if-letter-le32.false byte c.loop-i.invariant.letters;
      is = λ few. key_wrapped c.args.text.now c.loop-i.key c.loop-i.i c.from.result within read c.loop-i.invariant.small (omega arith) c.loop-i.invariant.is few;
    }
