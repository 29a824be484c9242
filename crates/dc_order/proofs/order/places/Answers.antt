use Rattle.std.proofs.Common.{ℕ, ◌<◌, List, length, get_or, set, refl, sym, subst, arith, inl, inr}
use Rattle.std.proofs.lemmas.Bool.{cases_eq}
use Rattle.std.proofs.lemmas.List.{get_or-set_same, get_or-set_other}
use Rattle.dc_order.specs.Rings.{hop_at, IsMissing, IsOnRing}
use Rattle.dc_order.specs.lemmas.Reaching.{hop-rises, first-ring, below-more, missing-few}
use Rattle.dc_order.proofs.order.places.Goals as goal

-- all before it are on no ring
pub returns-in-Err-place_of-clause-order : goal.returns-in-Err-place_of-clause-order
returns-in-Err-place_of-clause-order c = first-ring c.args.count c.args.hops.now c.loop-i.i c.in-Err-place_of.error c.loop-i-test.true c.loop-i.invariant.free c.in-Err-place_of.ensures

pub loop-i-preserved : goal.loop-i-preserved
loop-i-preserved c =
    let l = c.loop-i.invariant in
    let n = c.in-Ok-place_of.ensures in
    let xs : List ℕ = c.loop-i.places.items in
    let here : c.loop-i.i < length c.loop-i.places.items = omega (arith, c.loop-i-test.true, l.size, c.loop-i.places.ok.0) in
    record {
      size = l.size;
      free = below-more (λ k. IsOnRing c.args.hops.now k → ⊥) c.loop-i.i l.free n.1;
      missing = λ k there. elim (cases_eq k c.loop-i.i) [
        | inl same ↦
            let P : ℕ → Type 0 = λ p. IsMissing c.args.count c.args.hops.now c.loop-i.i p in
            let Q : ℕ → Type 0 = λ k. IsMissing c.args.count c.args.hops.now k (get_or (set c.loop-i.places.items c.loop-i.i c.in-Ok-place_of.place) k 0) in
            subst Q (sym same) (subst P (sym (get_or-set_same c.loop-i.places.items c.loop-i.i c.in-Ok-place_of.place 0 here)) n.0)
        | inr other ↦
            let P : ℕ → Type 0 = λ p. IsMissing c.args.count c.args.hops.now k p in
            subst P (sym (get_or-set_other c.loop-i.places.items c.loop-i.i k c.in-Ok-place_of.place 0 other)) (l.missing k (omega (arith, there, other)))
      ];
    }

-- each link leads to one from which less is reached
pub returns-clause-order : goal.returns-clause-order
returns-clause-order c = λ k there.
    let l = c.loop-i.invariant in
    let ends = c.requires k there in
    let from : (hop_at c.args.hops.now k).from < c.loop-i.i = omega (arith, ends.0, c.loop-i-test.false) in
    let to : (hop_at c.args.hops.now k).to < c.loop-i.i = omega (arith, ends.1, c.loop-i-test.false) in
    hop-rises c.args.count c.args.hops.now (hop_at c.args.hops.now k).from (hop_at c.args.hops.now k).to _ _ ends.0 ends.1 (k, there, refl, refl) (l.free (hop_at c.args.hops.now k).to to) (l.missing (hop_at c.args.hops.now k).from from) (l.missing (hop_at c.args.hops.now k).to to)

-- a place counts concentrators
pub returns-clause-few : goal.returns-clause-few
returns-clause-few c =
    let l = c.loop-i.invariant in
    missing-few c.args.count c.args.hops.now c.loop-i.places.items (omega (arith, l.size, c.loop-i.places.ok.0)) (λ k there. l.missing k (omega (arith, there, c.loop-i-test.false)))
