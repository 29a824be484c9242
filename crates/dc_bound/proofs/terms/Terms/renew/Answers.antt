use Rattle.std.proofs.Common.{◌/◌, ◌<◌, ◌≤◌, ℕ, get_or, sym, subst, arith}
use Rattle.dc_bound.specs.Terms.{KeepsTerms}
use Rattle.dc_bound.specs.declared.terms.Terms.{Terms}
use Rattle.dc_bound.proofs.Summed.{least_next}
use Rattle.dc_bound.proofs.terms.Terms.renew.Goals.{then-self-i, else-self-i}
use Rattle.dc_bound.proofs.terms.Terms.renew.Goals as goal

pub loop-i-preserved : goal.loop-i-preserved
loop-i-preserved g c =
    let P : Terms → Type 0 = λ t.
    KeepsTerms g.B.ArrivalBound.cap c.args.members.now c.args.ticks t × ((j : ℕ) → j < c.loop-i.i → c.loop-i.found ≤ get_or t.marks j 0)
    × (c.args.ticks < get_or t.marks c.loop-i.i 0 / 256) in
    let both : P c.if-self-i.self =
    elim c.if-self-i.branch [
      | then-self-i w ↦
          subst P (sym w.self-is) (
            w.ask.ensures.kept,
            (λ j h. omega (arith, w.ask.ensures.others j (λ e. omega (arith, e, h)), c.loop-i.invariant.first j h)),
            w.ask.ensures.ahead,
          )
      | else-self-i w ↦ subst P (sym w.self-is) (c.loop-i.invariant.kept, c.loop-i.invariant.first, omega (arith, w.if-self-i.false))
    ] in
    record {
      kept = both.0;
      end = omega (arith, c.min-found.ensures, c.loop-i.invariant.end);
      first = least_next (λ j. get_or c.if-self-i.self.marks j 0) c.min-found.result c.loop-i.i (λ j h. omega (arith, c.min-found.ensures, both.1 j h)) (omega (arith, c.min-found.ensures));
      later = omega (arith, c.min-found.ensures, c.loop-i.invariant.later, both.2);
    }

pub returns-clause-first : goal.returns-clause-first
returns-clause-first g c = λ i h. omega (arith, c.loop-i.invariant.first i (omega (arith, c.loop-i-test.false)))
