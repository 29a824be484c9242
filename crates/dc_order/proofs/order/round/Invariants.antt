use Rattle.std.proofs.Common.{◌≡◌, ℕ, ◌<◌, ◌≤◌, true, false}
use Rattle.dc_order.specs.Rings.{AreLed, IsTakenOn, missing}
use Rattle.dc_order.proofs.order.round.Given as goal

-- where none was new, each link so far is taken on
abbrev pub invariant-loop-hop : goal.invariant-loop-hop
invariant-loop-hop l = record {
  led : AreLed l.hops l.start l.reached;
  kept : missing l.reached ≤ missing l.initial.reached;
  more : l.more ≡ true → missing l.reached < missing l.initial.reached;
  done : l.more ≡ false → (k : ℕ) → k < l.hop-index → IsTakenOn l.hops l.start l.reached k;
}
