use Rattle.std.proofs.Common.{ℕ, ◌/◌, ◌*◌, ◌<◌, ◌≤◌, get_or}
use Rattle.dc_bound.specs.Terms.{KeepsTerms}
use Rattle.dc_bound.proofs.terms.Terms.renew.Given as goal

abbrev pub invariant-loop-i : goal.invariant-loop-i
invariant-loop-i g l = record {
  kept : KeepsTerms g.B.ArrivalBound.cap l.members l.ticks l.self;
  end : l.found ≤ l.end * 256;
  first : (j : ℕ) → j < l.i → l.found ≤ get_or l.self.marks j 0;
  later : l.ticks < l.found / 256;
}
