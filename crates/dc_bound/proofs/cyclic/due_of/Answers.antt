use Rattle.std.proofs.Common.{sym}
use Rattle.dc_bound.specs.lemmas.Spans.{due_early, due_late}
use Rattle.dc_bound.proofs.cyclic.due_of.Goals as goal

pub returns-then-n-len : goal.returns-then-n-len
returns-then-n-len c = sym (due_early c.args.frame c.args.offsets.now c.args.n c.if-n-len.true)

pub returns-else-n-len : goal.returns-else-n-len
returns-else-n-len c = sym (due_late c.args.frame c.args.offsets.now c.args.n c.if-n-len.false c.requires)
