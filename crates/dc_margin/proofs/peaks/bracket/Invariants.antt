use Rattle.std.proofs.Common.{◌+◌, ◌-◌, ◌<◌, ◌≤◌}
use Rattle.dc_margin.proofs.peaks.bracket.Given as goal

abbrev pub invariant-loop-short : goal.invariant-loop-short
invariant-loop-short g l = record {
  low : l.short ≤ 100000;
  some : 1 ≤ l.step;
  small : l.step ≤ 200000;
  fails : g.S.ServiceBound.floor l.service (l.ticks - 1 + l.short) < l.most;
}

abbrev pub decreases-loop-short : goal.decreases-loop-short
decreases-loop-short g l = 100001 - l.short
