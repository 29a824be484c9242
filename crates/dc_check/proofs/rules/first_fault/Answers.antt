use Rattle.std.proofs.Common.{sym, ◌∙◌}
use Rattle.dc_check.specs.lemmas.Firsts.{first_of-found, first_of-more}
use Rattle.dc_check.proofs.rules.first_fault.Goals as goal

pub returns-then-is_some : goal.returns-then-is_some
returns-then-is_some c = first_of-found c.args.rules.now c.loop-rule.rule-index c.loop-rule-test.true c.loop-rule.invariant (sym c.is_some.ensures ∙ c.if-is_some.true)

pub loop-rule-preserved : goal.loop-rule-preserved
loop-rule-preserved c = first_of-more c.args.rules.now c.loop-rule.rule-index c.loop-rule-test.true c.loop-rule.invariant (sym c.is_some.ensures ∙ c.if-is_some.false)
