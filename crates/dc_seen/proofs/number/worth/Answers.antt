use Rattle.std.proofs.Common.{arith, get_or, refl}
use Rattle.std.specs.Str.Parse.{digits_value}
use Rattle.dc_seen.proofs.Decimals.{worth_all, worth_more}
use Rattle.dc_seen.proofs.number.worth.Goals as goal

pub loop-c-init : goal.loop-c-init
loop-c-init c = λ digits small. (digits, refl)

pub loop-c-preserved : goal.loop-c-preserved
loop-c-preserved c = λ digits small.
    let text = c.args.text.now in
    worth_more text c.loop-c.c-index (get_or text c.loop-c.c-index 0) c.loop-c.number c.with_digit-number.result (digits_value 10 text) c.loop-c-test.true refl c.with_digit-number.ensures small (c.loop-c.invariant digits small)

pub returns : goal.returns
returns c = λ digits small. worth_all c.args.text.now c.loop-c.c-index c.loop-c.number _ (omega arith) (c.loop-c.invariant digits small)
