use Rattle.dc_oracle.proofs.Replying.{emission-none}
use Rattle.dc_oracle.proofs.replies.ReplyWatch.emits.Goals as goal

pub returns-in_default-clause-emission : goal.returns-in_default-clause-emission
returns-in_default-clause-emission c = λ run h l. emission-none c.args.tables.now run c.args.event.now c.in_default.not-Send
