use Rattle.std.proofs.Common.{arith}
use Rattle.dc_event.proofs.LongKeys.{starts_long}
use Rattle.dc_event.proofs.long_names.LongNames.name_ahead.Goals as goal

pub returns : goal.returns
returns c = λ names found.
    starts_long names c.args.text.now c.long_key.result c.in_ok-letters.letters c.in_ok-number.number (omega (arith, c.if-text-le-NAME_LIMIT.false))
    (omega (arith, c.in_ok-letters.ensures)) (omega (arith, c.in_ok-letters.ensures)) (λ i. omega (arith, c.type_inv.text i)) c.long_key.ensures
    (c.in_ok-number.ensures names found)
