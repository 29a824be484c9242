use Rattle.std.proofs.Common.{◌≡◌, ◌+◌, ℕ, arith, refl, subst}
use Rattle.dc_bound.specs.Window.{Shown}
use Rattle.dc_bound.specs.lemmas.Walks.{shown_to_jump, shown_some}
use Rattle.dc_bound.proofs.arrival.ArrivalBound.walk.Goals as goal

pub returns-then-not-see-clause-ended : goal.returns-then-not-see-clause-ended
returns-then-not-see-clause-ended g c =
    let cap = g.Self.ArrivalBound.cap c.args.self.now in
    let shown : Shown cap c.loop-ticks.ticks c.min-until.result c.at_most_and_jump-most.result.0 =
    shown_to_jump cap c.loop-ticks.ticks c.args.last c.min-until.result c.at_most_and_jump-most.result.0 c.at_most_and_jump-most.result.1
    c.requires.far c.at_most_and_jump-most.ensures.jump (omega (arith, c.min-until.ensures, c.unwrap_or.ensures)) c.at_most_and_jump-most.ensures.most in
    λ e. c.if-not-see.ensures.ends refl cap c.loop-ticks.invariant.knows shown

pub loop-ticks-preserved : goal.loop-ticks-preserved
loop-ticks-preserved g c =
    let cap = g.Self.ArrivalBound.cap c.args.self.now in
    let shown : Shown cap c.loop-ticks.ticks c.min-until.result c.at_most_and_jump-most.result.0 =
    shown_to_jump cap c.loop-ticks.ticks c.args.last c.min-until.result c.at_most_and_jump-most.result.0 c.at_most_and_jump-most.result.1
    c.requires.far c.at_most_and_jump-most.ensures.jump (omega (arith, c.min-until.ensures, c.unwrap_or.ensures)) c.at_most_and_jump-most.ensures.most in
    let later = shown_some cap c.loop-ticks.ticks c.args.last c.min-until.result c.at_most_and_jump-most.result.1 c.loop-ticks-test.true
    c.at_most_and_jump-most.ensures.jump (omega (arith, c.min-until.ensures, c.unwrap_or.ensures)) in
    record {
      some = omega (arith, later);
      inside = omega (arith, c.min-until.ensures);
      knows = c.if-not-see.ensures.goes refl cap c.loop-ticks.invariant.knows shown;
    }

pub returns-clause-all : goal.returns-clause-all
returns-clause-all g c =
    let end : c.loop-ticks.ticks ≡ c.args.last + 1 = omega (arith, c.loop-ticks.invariant.inside, c.loop-ticks-test.false) in
    let P : ℕ → Type 0 = λ n. g.W.Watcher.knows c.loop-ticks.watcher (g.Self.ArrivalBound.cap c.args.self.now) n in
    λ e. subst P end c.loop-ticks.invariant.knows
