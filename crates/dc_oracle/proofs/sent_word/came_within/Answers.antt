use Rattle.std.proofs.Common.{sym, ◌∙◌}
use Rattle.dc_oracle.proofs.Judging.{within-no, within-reported}
use Rattle.dc_oracle.proofs.sent_word.came_within.Goals as goal

pub returns-in_default : goal.returns-in_default
returns-in_default c = within-no _ c.args.replies.now.tick c.args.age (sym c.latest_came.ensures ∙ c.in_default.is)

pub returns : goal.returns
returns c = within-reported _ c.in-Some.came c.tick.result _ c.args.age c.saturating_add.result (sym c.latest_came.ensures ∙ c.in-Some.is) c.saturating_add.ensures c.tick.type_inv c.tick.ensures
