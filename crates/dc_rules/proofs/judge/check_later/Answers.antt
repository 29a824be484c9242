use Rattle.dc_rules.proofs.Telling.{tells_later}
use Rattle.dc_rules.proofs.judge.check_later.Goals as goal

pub returns-clause-rule : goal.returns-clause-rule
returns-clause-rule c = tells_later _ _ _ c.in_ok-names.ensures.rule c.kept.ensures.rule
