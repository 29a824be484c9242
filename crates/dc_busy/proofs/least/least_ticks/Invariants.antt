use Rattle.std.proofs.Common.{ℕ, ◌-◌, ◌<◌, ◌≤◌}
use Rattle.dc_busy.proofs.least.least_ticks.Given as goal

abbrev pub invariant-loop-low : goal.invariant-loop-low
invariant-loop-low g l = record {
  above : l.from ≤ l.low;
  order : l.low ≤ l.ahead;
  below : l.ahead ≤ l.to;
  some : 1 ≤ l.step;
  too_few : (e : ℕ) → l.from ≤ e → e < l.low → g.S.ServiceBound.floor l.service e < l.count;
}

abbrev pub decreases-loop-low : goal.decreases-loop-low
decreases-loop-low g l = l.to - l.ahead
