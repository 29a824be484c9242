use Rattle.dc_rules.proofs.Obeying.{obeys_answered}
use Rattle.dc_rules.proofs.passed.Passed.of.Goals as goal

pub returns-clause-obeys : goal.returns-clause-obeys
returns-clause-obeys c = obeys_answered c.args.parts.now c.check_later.result c.in_ok-entries.ensures.rule c.check_later.ensures.rule
