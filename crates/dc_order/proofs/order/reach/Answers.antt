use Rattle.std.proofs.Common.{ℕ, subst}
use Rattle.dc_order.specs.Rings.{AreReached}
use Rattle.dc_order.specs.lemmas.Reaching.{reached-is}
use Rattle.dc_order.proofs.order.reach.Goals as goal

-- after a round with nothing new, all that links lead to is there
pub returns : goal.returns
returns c =
    let l = c.loop-more.invariant in
    let P : ℕ → Type 0 = λ n. AreReached n c.args.hops.now c.args.start c.loop-more.reached.items in
    subst P l.size (reached-is c.args.hops.now c.args.start c.loop-more.reached.items l.led (l.done c.loop-more-test.false))
