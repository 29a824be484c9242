use Rattle.std.proofs.Common.{arith, length, sym, ◌∙◌}
use Rattle.std.proofs.lemmas.Bool.{eqb-false}
use Rattle.dc_seen.proofs.Places.{cut_at, long_at}
use Rattle.dc_seen.proofs.lines.line_at.Goals as goal

pub returns-in_default : goal.returns-in_default
returns-in_default c =
    let left = c.behind-left.result.now in
    let some = eqb-false (length left) 0 (sym c.is_empty.ensures ∙ c.if-is_empty.false) in
    cut_at c.args.text.now left c.args.before c.unended_rule.result c.behind-left.ensures (omega (arith, some)) c.in_default.ensures c.unended_rule.ensures

pub returns-then-is_too_long : goal.returns-then-is_too_long
returns-then-is_too_long c =
    let found = c.in-Some.ensures in
    long_at c.args.text.now c.behind-left.result.now c.args.before c.in-Some.length c.behind-left.ensures found.0 found.1 found.2 (sym c.is_too_long.ensures ∙ c.if-is_too_long.true)
