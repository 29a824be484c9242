use Rattle.std.proofs.Common.{◌+◌, ◌*◌, ◌/◌, ◌%◌, length, refl, arith}
use Rattle.dc_bound.specs.Frame.{cyclic_cap}
use Rattle.dc_bound.specs.Window.{Shown}
use Rattle.dc_bound.specs.lemmas.Spans.{cyclic_le}
use Rattle.dc_bound.proofs.CyclicWalk.{split_first, step, whole_near, past_small}
use Rattle.dc_bound.proofs.cyclic.CyclicArrivalBound.walk.Goals as goal

pub overflow_cast-whole : goal.overflow_cast-whole
overflow_cast-whole g c = omega (arith, c.at_most-count.ensures, cyclic_le c.args.self.now.frame c.args.self.now.offsets.now c.args.self.now.framed c.args.first)

pub overflow_mul-whole : goal.overflow_mul-whole
overflow_mul-whole g c =
    let split = split_first c.args.self.now.frame (length c.args.self.now.offsets.now) c.at_most-count.result c.args.self.now.framed.some in
    let near = whole_near c.args.self.now.frame c.args.self.now.offsets.now c.args.self.now.framed c.args.first c.at_most-count.result (c.at_most-count.result / length c.args.self.now.offsets.now * c.args.self.now.frame) (c.at_most-count.result % length c.args.self.now.offsets.now)
    c.at_most-count.ensures split in
    omega (arith, near, c.args.self.now.short)

pub loop-ticks-init : goal.loop-ticks-init
loop-ticks-init g c = record {
  some = c.requires.first;
  inside = c.if-last-first.false;
  count = c.at_most-count.ensures;
  split = split_first c.args.self.now.frame (length c.args.self.now.offsets.now) c.at_most-count.result c.args.self.now.framed.some;
  known = c.none-known.ensures c.args.self.now.frame c.args.self.now.offsets.now c.args.self.now.few;
  knows = c.requires.knows;
}

pub overflow_add-jump : goal.overflow_add-jump
overflow_add-jump g c =
    let near = whole_near c.args.self.now.frame c.args.self.now.offsets.now c.args.self.now.framed c.loop-ticks.ticks c.loop-ticks.count c.loop-ticks.whole c.loop-ticks.rest c.loop-ticks.invariant.count c.loop-ticks.invariant.split in
    let small = past_small c.args.self.now.frame c.args.self.now.offsets.now c.args.self.now.framed c.loop-ticks.rest c.past.result c.loop-ticks.invariant.split.part c.past.ensures.span in
    omega (arith, near, small, c.args.self.now.short)

pub returns-then-last-jump-clause-all : goal.returns-then-last-jump-clause-all
returns-then-last-jump-clause-all g c =
    let at = step c.args.self.now.frame c.args.self.now.offsets.now c.args.self.now.framed c.loop-ticks.ticks c.loop-ticks.count c.loop-ticks.whole c.loop-ticks.rest c.past.result (c.loop-ticks.whole + c.past.result)
    c.loop-ticks.invariant.count c.loop-ticks.invariant.split c.past.ensures.some c.past.ensures.span refl in
    let shown : Shown (cyclic_cap c.args.self.now.frame c.args.self.now.offsets.now) c.loop-ticks.ticks (c.args.last + 1) c.loop-ticks.count = λ k from to. at.1 k from (omega (arith, c.if-last-jump.true)) in
    λ e. c.see.ensures.goes e (cyclic_cap c.args.self.now.frame c.args.self.now.offsets.now) c.loop-ticks.invariant.knows shown

pub returns-then-last-jump-clause-ended : goal.returns-then-last-jump-clause-ended
returns-then-last-jump-clause-ended g c =
    let at = step c.args.self.now.frame c.args.self.now.offsets.now c.args.self.now.framed c.loop-ticks.ticks c.loop-ticks.count c.loop-ticks.whole c.loop-ticks.rest c.past.result (c.loop-ticks.whole + c.past.result)
    c.loop-ticks.invariant.count c.loop-ticks.invariant.split c.past.ensures.some c.past.ensures.span refl in
    let shown : Shown (cyclic_cap c.args.self.now.frame c.args.self.now.offsets.now) c.loop-ticks.ticks (c.args.last + 1) c.loop-ticks.count = λ k from to. at.1 k from (omega (arith, c.if-last-jump.true)) in
    λ e. c.see.ensures.ends e (cyclic_cap c.args.self.now.frame c.args.self.now.offsets.now) c.loop-ticks.invariant.knows shown

pub see-requires-in-loop-ticks-clause-some : goal.see-requires-in-loop-ticks-clause-some
see-requires-in-loop-ticks-clause-some g c =
    let at = step c.args.self.now.frame c.args.self.now.offsets.now c.args.self.now.framed c.loop-ticks.ticks c.loop-ticks.count c.loop-ticks.whole c.loop-ticks.rest c.past.result (c.loop-ticks.whole + c.past.result)
    c.loop-ticks.invariant.count c.loop-ticks.invariant.split c.past.ensures.some c.past.ensures.span refl in
    at.0

pub returns-then-not-see-clause-ended : goal.returns-then-not-see-clause-ended
returns-then-not-see-clause-ended g c =
    let at = step c.args.self.now.frame c.args.self.now.offsets.now c.args.self.now.framed c.loop-ticks.ticks c.loop-ticks.count c.loop-ticks.whole c.loop-ticks.rest c.past.result (c.loop-ticks.whole + c.past.result)
    c.loop-ticks.invariant.count c.loop-ticks.invariant.split c.past.ensures.some c.past.ensures.span refl in
    λ e. c.if-not-see.ensures.ends refl (cyclic_cap c.args.self.now.frame c.args.self.now.offsets.now) c.loop-ticks.invariant.knows at.1

pub overflow_add-count : goal.overflow_add-count
overflow_add-count g c = omega (arith, c.loop-ticks.invariant.count, cyclic_le c.args.self.now.frame c.args.self.now.offsets.now c.args.self.now.framed c.loop-ticks.ticks)

pub loop-ticks-smaller : goal.loop-ticks-smaller
loop-ticks-smaller g c =
    let at = step c.args.self.now.frame c.args.self.now.offsets.now c.args.self.now.framed c.loop-ticks.ticks c.loop-ticks.count c.loop-ticks.whole c.loop-ticks.rest c.past.result (c.loop-ticks.whole + c.past.result)
    c.loop-ticks.invariant.count c.loop-ticks.invariant.split c.past.ensures.some c.past.ensures.span refl in
    omega (arith, at.0, c.loop-ticks-test.true)

pub loop-ticks-preserved : goal.loop-ticks-preserved
loop-ticks-preserved g c =
    let at = step c.args.self.now.frame c.args.self.now.offsets.now c.args.self.now.framed c.loop-ticks.ticks c.loop-ticks.count c.loop-ticks.whole c.loop-ticks.rest c.past.result (c.loop-ticks.whole + c.past.result)
    c.loop-ticks.invariant.count c.loop-ticks.invariant.split c.past.ensures.some c.past.ensures.span refl in
    record {
      some = omega (arith, at.0);
      inside = c.if-last-jump.false;
      count = at.2;
      split = c.one_more.ensures c.loop-ticks.count c.loop-ticks.invariant.split;
      known = c.past.ensures.known;
      knows = c.if-not-see.ensures.goes refl (cyclic_cap c.args.self.now.frame c.args.self.now.offsets.now) c.loop-ticks.invariant.knows at.1;
    }
