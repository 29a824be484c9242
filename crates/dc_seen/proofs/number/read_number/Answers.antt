use Rattle.std.proofs.Common.{arith, sym, ◌∙◌}
use Rattle.dc_seen.proofs.Decimals.{not_printed, printed}
use Rattle.dc_seen.proofs.number.read_number.Goals as goal

pub returns-then-is_decimal : goal.returns-then-is_decimal
returns-then-is_decimal c = printed c.args.text.now c.worth-number.result (omega (arith, c.worth-number.type_inv)) (sym c.is_decimal.ensures ∙ c.if-is_decimal.true)

pub returns : goal.returns
returns c = not_printed c.args.text.now c.worth-number.result c.worth-number.ensures (sym c.is_decimal.ensures ∙ c.if-is_decimal.false)
