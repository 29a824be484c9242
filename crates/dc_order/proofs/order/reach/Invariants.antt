use Rattle.std.proofs.Common.{◌≡◌, ℕ, ◌+◌, ◌<◌, false, cond, length}
use Rattle.dc_order.specs.Rings.{AreLed, IsTakenOn, missing}
use Rattle.dc_order.proofs.order.reach.Given as goal

-- what is true is led to; and after a round with nothing new, each link is taken on
abbrev pub invariant-loop-more : goal.invariant-loop-more
invariant-loop-more l = record {
  size : length l.reached.items ≡ l.count;
  led : AreLed l.hops l.start l.reached.items;
  done : l.more ≡ false → (k : ℕ) → k < length l.hops → IsTakenOn l.hops l.start l.reached.items k;
}

abbrev pub decreases-loop-more : goal.decreases-loop-more
decreases-loop-more l = missing l.reached.items + cond l.more 1 0
