use Rattle.std.specs.Prelude.{drop}
use Rattle.std.proofs.lemmas.List.{at_drop_all}
use Rattle.dc_drive.specs.Played.{arrivals, events}
use Rattle.dc_drive.proofs.Walks.{arrivals-short, rest-long}
use Rattle.dc_drive.proofs.compare.are_arrivals.Goals as goal

pub returns-then-next-receipts-clause-no : goal.returns-then-next-receipts-clause-no
returns-then-next-receipts-clause-no c = λ _.
    arrivals-short c.args.receipts.now c.args.bus c.loop-i.next c.loop-i.i c.args.words.now (events (drop c.args.before c.args.receipts.now)) (arrivals c.args.bus c.args.words.now)
    (c.loop-i.invariant.0, c.loop-i.invariant.1) c.if-next-receipts.true c.loop-i-test.true

pub returns-then-next-receipts-2-clause-no : goal.returns-then-next-receipts-2-clause-no
returns-then-next-receipts-2-clause-no c = λ _.
    rest-long c.args.receipts.now c.loop-i.next (events (drop c.args.before c.args.receipts.now)) (arrivals c.args.bus c.args.words.now) (arrivals c.args.bus (drop c.loop-i.i c.args.words.now))
    (c.loop-i.invariant.0, c.loop-i.invariant.1) c.if-next-receipts-2.true (at_drop_all (arrivals c.args.bus) c.args.words.now c.loop-i.i c.loop-i-test.false)
