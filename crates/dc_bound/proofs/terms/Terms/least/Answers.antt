use Rattle.std.proofs.Common.{get_or, arith}
use Rattle.dc_bound.proofs.Summed.{least_next}
use Rattle.dc_bound.proofs.terms.Terms.least.Goals as goal

pub loop-i-preserved : goal.loop-i-preserved
loop-i-preserved c = record {
  end = omega (arith, c.min-least.ensures, c.loop-i.invariant.end);
  first = least_next (λ j. get_or c.args.self.now.marks j 0) c.min-least.result c.loop-i.i (λ j h. omega (arith, c.min-least.ensures, c.loop-i.invariant.first j h)) (omega (arith, c.min-least.ensures));
}

pub returns-clause-first : goal.returns-clause-first
returns-clause-first c = λ i h. c.loop-i.invariant.first i (omega (arith, c.loop-i-test.false))
