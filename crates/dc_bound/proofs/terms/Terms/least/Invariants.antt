use Rattle.std.proofs.Common.{ℕ, ◌<◌, ◌≤◌, get_or}
use Rattle.dc_bound.proofs.terms.Terms.least.Given as goal

abbrev pub invariant-loop-i : goal.invariant-loop-i
invariant-loop-i l = record {
  end : l.least ≤ l.end;
  first : (j : ℕ) → j < l.i → l.least ≤ get_or l.self.marks j 0;
}
