use Rattle.std.specs.Prelude.{drop}
use Rattle.std.proofs.lemmas.List.{at_drop_all}
use Rattle.dc_drive.specs.Played.{events, own}
use Rattle.dc_drive.proofs.Walks.{rest-long}
use Rattle.dc_drive.proofs.compare.are_own.Goals as goal

pub returns-then-next-receipts-2-clause-no : goal.returns-then-next-receipts-2-clause-no
returns-then-next-receipts-2-clause-no c = λ _.
    rest-long c.args.receipts.now c.loop-i.next (events (drop c.args.before c.args.receipts.now)) (own c.args.actor.now c.args.run.now) (own c.args.actor.now (drop c.loop-i.i c.args.run.now))
    (c.loop-i.invariant.0, c.loop-i.invariant.1) c.if-next-receipts-2.true (at_drop_all (own c.args.actor.now) c.args.run.now c.loop-i.i c.loop-i-test.false)
