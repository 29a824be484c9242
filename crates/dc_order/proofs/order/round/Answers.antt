use Rattle.std.proofs.Common.{ℕ, ◌+◌, ◌<◌, ◌≤◌, List, Bool, sym, ◌∙◌, subst, arith}
use Rattle.std.proofs.lemmas.Bool.{both_ways}
use Rattle.dc_order.specs.Rings.{hop_at, AreLed, IsTakenOn, AreNumbered, missing}
use Rattle.dc_order.specs.lemmas.Reaching.{led-new, missing-new, below-more}
use Rattle.dc_order.proofs.order.round.Goals as goal
use Rattle.dc_order.proofs.order.round.Goals.{then-take, else-take}

-- the link led to a new one, or all is as before and it is taken on
pub loop-hop-preserved : goal.loop-hop-preserved
loop-hop-preserved c =
    let l = c.loop-hop.invariant in
    let k : ℕ = c.loop-hop.hop-index in
    let N : ℕ → Type 0 = λ n. AreNumbered n c.args.hops.now in
    let numbered = subst N (sym c.loop-hop.auto.reached) c.requires.numbered in
    elim c.if-take.branch [
      | then-take w ↦
          let n = c.take.ensures.new w.if-take.true in
          let less = missing-new c.loop-hop.reached c.take.new.reached (hop_at c.args.hops.now c.loop-hop.hop-index).to (numbered c.loop-hop.hop-index c.loop-hop-test.true).1 n.0 n.1 in
          record {
            led = led-new c.args.hops.now c.args.start c.loop-hop.hop-index c.loop-hop.reached c.take.new.reached c.loop-hop-test.true numbered l.led n.0 n.2;
            kept = omega (arith, less, l.kept);
            more = λ _. omega (arith, less, l.kept);
            done = λ not. absurd (both_ways c.if-take.more not w.more-is);
          }
      | else-take w ↦
          let s = c.take.ensures.same w.if-take.false in
          let P : List Bool → Type 0 = λ z. AreLed c.args.hops.now c.args.start z in
          let M : List Bool → Type 0 = λ z. missing z ≤ missing c.args.reached.now in
          let F : List Bool → Type 0 = λ z. missing z < missing c.args.reached.now in
          let D : List Bool → Type 0 = λ z. (k : ℕ) → k < c.loop-hop.hop-index + 1 → IsTakenOn c.args.hops.now c.args.start z k in
          record {
            led = subst P (sym s.0) l.led;
            kept = subst M (sym s.0) l.kept;
            more = λ is. subst F (sym s.0) (l.more (sym w.more-is ∙ is));
            done = λ not. subst D (sym s.0) (below-more (IsTakenOn c.args.hops.now c.args.start c.loop-hop.reached) c.loop-hop.hop-index (l.done (sym w.more-is ∙ not)) s.1);
          }
    ]
