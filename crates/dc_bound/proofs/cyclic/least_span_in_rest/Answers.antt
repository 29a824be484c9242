use Rattle.std.proofs.Common.{◌≡◌, ◌-◌, ℕ, length, arith, subst}
use Rattle.dc_bound.specs.Frame.{IsLeastSpan}
use Rattle.dc_bound.specs.lemmas.Spans.{span_small}
use Rattle.dc_bound.proofs.CyclicWalk.{offset_order, span_from_first, span_in_frame, span_over}
use Rattle.dc_bound.proofs.cyclic.least_span_in_rest.Goals as goal

pub overflow_sub-least : goal.overflow_sub-least
overflow_sub-least c = offset_order c.args.frame c.args.offsets.now c.requires.framed 0 c.args.k (omega arith) c.requires.rest

pub loop-i-init : goal.loop-i-init
loop-i-init c = span_from_first c.args.frame c.args.offsets.now c.requires.framed c.args.k c.requires.rest

pub loop-i-preserved : goal.loop-i-preserved
loop-i-preserved c = span_in_frame c.args.frame c.args.offsets.now c.requires.framed c.args.k c.loop-i.i c.loop-i.least c.min-least.result (omega (arith, c.loop-i-test.true)) c.loop-i.invariant c.min-least.ensures

pub loop-j-init : goal.loop-j-init
loop-j-init c =
    let end : c.loop-i.i ≡ length c.args.offsets.now - c.args.k = omega (arith, c.loop-i.auto.i-end, c.loop-i-test.false, c.requires.rest) in
    let P : ℕ → Type 0 = λ n. IsLeastSpan c.args.frame c.args.offsets.now c.args.k n c.loop-i.least in
    subst P end c.loop-i.invariant

pub loop-j-preserved : goal.loop-j-preserved
loop-j-preserved c = span_over c.args.frame c.args.offsets.now c.requires.framed c.args.k c.loop-j.j c.loop-j.least c.min-least-in-loop-j.result c.requires.rest (omega (arith, c.loop-j.auto.j)) c.loop-j-test.true c.loop-j.invariant c.min-least-in-loop-j.ensures

pub returns : goal.returns
returns c =
    let end : c.loop-j.j ≡ length c.args.offsets.now = omega (arith, c.loop-j.auto.j-end, c.loop-j-test.false, c.requires.rest) in
    let P : ℕ → Type 0 = λ n. IsLeastSpan c.args.frame c.args.offsets.now c.args.k n c.loop-j.least in
    let span : P (length c.args.offsets.now) = subst P end c.loop-j.invariant in
    record { span = span; small = span_small c.args.frame c.args.offsets.now c.requires.framed c.args.k (length c.args.offsets.now) c.loop-j.least c.requires.framed.some c.requires.rest span }
