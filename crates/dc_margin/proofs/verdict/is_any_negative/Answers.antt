use Rattle.std.proofs.Common.{sym, ◌∙◌}
use Rattle.dc_margin.proofs.Row.{negative-there, kept-more}
use Rattle.dc_margin.proofs.verdict.is_any_negative.Goals as goal

pub returns-then-is_negative : goal.returns-then-is_negative
returns-then-is_negative c = negative-there c.args.lines.now c.loop-line.line-index _ c.loop-line-test.true (sym c.is_negative.ensures ∙ c.if-is_negative.true)

pub loop-line-preserved : goal.loop-line-preserved
loop-line-preserved c = kept-more c.args.lines.now c.loop-line.line-index _ c.loop-line-test.true c.loop-line.invariant (sym c.is_negative.ensures ∙ c.if-is_negative.false)
