use Rattle.std.proofs.Common.{◌<◌, ◌↔◌, ℕ, arith, subst}
use Rattle.dc_bound.specs.lemmas.Spans.{cyclic_le, HasSpan, span_least, cap_flat}
use Rattle.dc_bound.proofs.cyclic.CyclicArrivalBound.at_most_and_jump.Goals as goal

pub least_span-span-requires-clause-near : goal.least_span-span-requires-clause-near
least_span-span-requires-clause-near c = omega (arith, c.at_most-count.ensures, cyclic_le c.args.self.now.frame c.args.self.now.offsets.now c.args.self.now.framed c.args.d)

pub returns-then-span-clause-jump : goal.returns-then-span-clause-jump
returns-then-span-clause-jump c =
    let P : ℕ → Type 0 = λ k. (e : ℕ) → HasSpan c.args.self.now.frame c.args.self.now.offsets.now k e ↔ (c.least_span-span.result < e) in
    let spans = span_least c.args.self.now.frame c.args.self.now.offsets.now c.args.self.now.framed c.at_most-count.result c.least_span-span.result c.least_span-span.ensures in
    let flat = cap_flat c.args.self.now.frame c.args.self.now.offsets.now c.args.self.now.framed c.args.d c.least_span-span.result (subst P c.at_most-count.ensures spans) in
    (omega (arith, flat.0), omega (arith, c.if-span.true), (λ k a b. flat.1 k a (omega arith)), flat.2)

pub returns-else-span-clause-jump : goal.returns-else-span-clause-jump
returns-else-span-clause-jump c =
    let P : ℕ → Type 0 = λ k. (e : ℕ) → HasSpan c.args.self.now.frame c.args.self.now.offsets.now k e ↔ (c.least_span-span.result < e) in
    let spans = span_least c.args.self.now.frame c.args.self.now.offsets.now c.args.self.now.framed c.at_most-count.result c.least_span-span.result c.least_span-span.ensures in
    let flat = cap_flat c.args.self.now.frame c.args.self.now.offsets.now c.args.self.now.framed c.args.d c.least_span-span.result (subst P c.at_most-count.ensures spans) in
    λ k a b. flat.1 k a (omega (arith, c.if-span.false))
