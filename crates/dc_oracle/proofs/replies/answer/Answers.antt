use Rattle.std.proofs.Common.{◌∙◌, sym}
use Rattle.dc_oracle.proofs.Replying.{replies-refused}
use Rattle.dc_oracle.proofs.replies.answer.Goals as goal

pub returns-then-refuses-clause-reply : goal.returns-then-refuses-clause-reply
returns-then-refuses-clause-reply c = λ run h p l.
    let j = c.refuses.ensures.judges run p l in
    replies-refused c.args.tables.now c.args.watch.now run c.args.event.now (sym j.answer ∙ c.if-refuses.true) h

pub returns-then-refuses-clause-judges : goal.returns-then-refuses-clause-judges
returns-then-refuses-clause-judges c = λ run p l. (c.refuses.ensures.judges run p l).holds

pub returns-clause-reply : goal.returns-clause-reply
returns-clause-reply c = λ run h p l.
    let j = c.refuses.ensures.judges run p l in
    c.see.ensures.reply run h l (sym j.answer ∙ c.if-refuses.false)

pub returns-clause-judges : goal.returns-clause-judges
returns-clause-judges c = λ run p l. (c.refuses.ensures.judges run p l).holds
