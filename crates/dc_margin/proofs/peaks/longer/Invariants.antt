use Rattle.std.proofs.Common.{ℕ, ◌+◌, ◌-◌, ◌<◌, ◌≤◌}
use Rattle.dc_margin.proofs.peaks.longer.Given as goal

abbrev pub invariant-loop-low : goal.invariant-loop-low
invariant-loop-low g l = record {
  order : l.low ≤ l.high;
  end : l.high ≤ 100001;
  enough : l.high < 100001 → l.most ≤ g.S.ServiceBound.floor l.service (l.ticks - 1 + l.high);
  too_few : (e : ℕ) → e < l.low → g.S.ServiceBound.floor l.service (l.ticks - 1 + e) < l.most;
}

abbrev pub decreases-loop-low : goal.decreases-loop-low
decreases-loop-low g l = l.high - l.low
