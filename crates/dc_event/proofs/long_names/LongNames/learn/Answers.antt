use Rattle.std.proofs.Common.{sym, ◌∙◌, arith}
use Rattle.dc_event.proofs.LongKeys.{long_name}
use Rattle.dc_event.proofs.long_names.LongNames.learn.Goals as goal

pub returns : goal.returns
returns c = λ names found named.
    c.put.ensures names found (long_name names c.args.name.now c.long_key.result c.in-Some.number (omega (arith, c.if-name-gt-NAME_LIMIT.false)) (c.are_letters.ensures c.if-not-are_letters.false)
    c.long_key.ensures (sym named ∙ c.in-Some.is))
