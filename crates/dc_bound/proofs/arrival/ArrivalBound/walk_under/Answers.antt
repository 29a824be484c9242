use Rattle.std.proofs.Common.{◌≡◌, ◌+◌, ℕ, arith, refl, subst}
use Rattle.dc_bound.specs.Window.{Shown, wire_cap}
use Rattle.dc_bound.specs.Under.{under}
use Rattle.dc_bound.specs.lemmas.Walks.{shown_to_jump, shown_some}
use Rattle.dc_bound.specs.declared.arrival.Wire.{Wire}
use Rattle.dc_bound.proofs.arrival.ArrivalBound.walk_under.Goals as goal

pub lesser-shown-requires-clause-later : goal.lesser-shown-requires-clause-later
lesser-shown-requires-clause-later g c =
    shown_some (g.Self.ArrivalBound.cap c.args.self.now) c.loop-ticks.ticks c.args.last c.min-next.result c.at_most_and_jump-most.result.1 c.loop-ticks-test.true
    c.at_most_and_jump-most.ensures.jump (omega (arith, c.min-next.ensures, c.unwrap_or.ensures))

pub returns-then-not-see-clause-ended : goal.returns-then-not-see-clause-ended
returns-then-not-see-clause-ended g c =
    let cap = g.Self.ArrivalBound.cap c.args.self.now in
    let shown : Shown cap c.loop-ticks.ticks c.min-next.result c.at_most_and_jump-most.result.0 =
    shown_to_jump cap c.loop-ticks.ticks c.args.last c.min-next.result c.at_most_and_jump-most.result.0 c.at_most_and_jump-most.result.1
    c.requires.far c.at_most_and_jump-most.ensures.jump (omega (arith, c.min-next.ensures, c.unwrap_or.ensures)) c.at_most_and_jump-most.ensures.most in
    λ e. c.if-not-see.ensures.ends refl (λ d. under (λ (w : Wire) e. wire_cap w.tick w.spacing e) c.args.wire.now d (cap d)) c.loop-ticks.invariant.knows
    (c.lesser-shown.ensures.shown cap (λ m n h. g.met.Self.ArrivalBound.cap_monotone c.args.self.now m n h) shown)

pub loop-ticks-preserved : goal.loop-ticks-preserved
loop-ticks-preserved g c =
    let cap = g.Self.ArrivalBound.cap c.args.self.now in
    let shown : Shown cap c.loop-ticks.ticks c.min-next.result c.at_most_and_jump-most.result.0 =
    shown_to_jump cap c.loop-ticks.ticks c.args.last c.min-next.result c.at_most_and_jump-most.result.0 c.at_most_and_jump-most.result.1
    c.requires.far c.at_most_and_jump-most.ensures.jump (omega (arith, c.min-next.ensures, c.unwrap_or.ensures)) c.at_most_and_jump-most.ensures.most in
    record {
      some = omega (arith, c.lesser-shown.ensures.later);
      inside = c.lesser-shown.ensures.inside;
      knows = c.if-not-see.ensures.goes refl (λ d. under (λ (w : Wire) e. wire_cap w.tick w.spacing e) c.args.wire.now d (cap d)) c.loop-ticks.invariant.knows
          (c.lesser-shown.ensures.shown cap (λ m n h. g.met.Self.ArrivalBound.cap_monotone c.args.self.now m n h) shown);
    }

pub returns-clause-all : goal.returns-clause-all
returns-clause-all g c =
    let end : c.loop-ticks.ticks ≡ c.args.last + 1 = omega (arith, c.loop-ticks.invariant.inside, c.loop-ticks-test.false) in
    let P : ℕ → Type 0 = λ n. g.W.Watcher.knows c.loop-ticks.watcher (λ d. under (λ (w : Wire) e. wire_cap w.tick w.spacing e) c.args.wire.now d (g.Self.ArrivalBound.cap c.args.self.now d)) n in
    λ e. subst P end c.loop-ticks.invariant.knows
