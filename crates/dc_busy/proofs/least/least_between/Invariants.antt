use Rattle.std.proofs.Common.{ℕ, ◌-◌, ◌<◌, ◌≤◌}
use Rattle.dc_busy.proofs.least.least_between.Given as goal

abbrev pub invariant-loop-low : goal.invariant-loop-low
invariant-loop-low g l = record {
  above : l.from ≤ l.low;
  order : l.low ≤ l.high;
  below : l.high ≤ l.to;
  enough : l.count ≤ g.S.ServiceBound.floor l.service l.high;
  too_few : (e : ℕ) → l.from ≤ e → e < l.low → g.S.ServiceBound.floor l.service e < l.count;
}

abbrev pub decreases-loop-low : goal.decreases-loop-low
decreases-loop-low g l = l.high - l.low
