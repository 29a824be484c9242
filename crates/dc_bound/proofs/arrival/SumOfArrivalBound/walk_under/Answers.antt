use Rattle.std.proofs.Common.{◌≡◌, ◌+◌, ℕ, arith, refl, subst}
use Rattle.std.specs.List.{sum_by}
use Rattle.dc_bound.specs.Window.{wire_cap}
use Rattle.dc_bound.specs.Under.{under}
use Rattle.dc_bound.specs.lemmas.Sums.{sum_monotone}
use Rattle.dc_bound.proofs.Summed.{all_kept_later}
use Rattle.dc_bound.specs.declared.arrival.Wire.{Wire}
use Rattle.dc_bound.proofs.arrival.SumOfArrivalBound.walk_under.Goals as goal

pub loop-ticks-init : goal.loop-ticks-init
loop-ticks-init g c = record {
  some = c.requires.first;
  inside = c.requires.order;
  kept = c.terms-terms.ensures c.args.first;
  knows = c.requires.knows;
}

pub returns-then-not-see-clause-ended : goal.returns-then-not-see-clause-ended
returns-then-not-see-clause-ended g c =
    let members = c.args.self.now.members.now in
    let cap = g.B.ArrivalBound.cap in
    λ e. c.if-not-see.ensures.ends refl (λ d. under (λ (w : Wire) e. wire_cap w.tick w.spacing e) c.args.wire.now d (sum_by (λ b. cap b d) members)) c.loop-ticks.invariant.knows
    (c.lesser-shown.ensures.shown (λ d. sum_by (λ b. cap b d) members) (λ m n h. sum_monotone cap g.met.B.ArrivalBound.cap_monotone members m n h) c.stretch-most.ensures.shown)

pub loop-ticks-preserved : goal.loop-ticks-preserved
loop-ticks-preserved g c =
    let members = c.args.self.now.members.now in
    let cap = g.B.ArrivalBound.cap in
    record {
      some = omega (arith, c.lesser-shown.ensures.later);
      inside = c.lesser-shown.ensures.inside;
      kept = all_kept_later cap members c.loop-ticks.ticks c.lesser-shown.result.1 c.stretch-most.new.terms (omega (arith, c.lesser-shown.ensures.later)) c.stretch-most.ensures.kept;
      knows = c.if-not-see.ensures.goes refl (λ d. under (λ (w : Wire) e. wire_cap w.tick w.spacing e) c.args.wire.now d (sum_by (λ b. cap b d) members)) c.loop-ticks.invariant.knows
          (c.lesser-shown.ensures.shown (λ d. sum_by (λ b. cap b d) members) (λ m n h. sum_monotone cap g.met.B.ArrivalBound.cap_monotone members m n h) c.stretch-most.ensures.shown);
    }

pub returns-clause-all : goal.returns-clause-all
returns-clause-all g c =
    let end : c.loop-ticks.ticks ≡ c.args.last + 1 = omega (arith, c.loop-ticks.invariant.inside, c.loop-ticks-test.false) in
    let P : ℕ → Type 0 = λ n. g.W.Watcher.knows c.loop-ticks.watcher (λ d. under (λ (w : Wire) e. wire_cap w.tick w.spacing e) c.args.wire.now d (sum_by (λ b. g.B.ArrivalBound.cap b d) c.args.self.now.members.now)) n in
    λ e. subst P end c.loop-ticks.invariant.knows
