use Rattle.std.proofs.Common.{◌≤◌, ◌+◌, ◌-◌}
use Rattle.dc_bound.proofs.arrival.ArrivalBound.walk.Given as goal

abbrev pub invariant-loop-ticks : goal.invariant-loop-ticks
invariant-loop-ticks g l = record {
  some : 1 ≤ l.ticks;
  inside : l.ticks ≤ l.last + 1;
  knows : g.W.Watcher.knows l.watcher (g.Self.ArrivalBound.cap l.self) l.ticks;
}

abbrev pub decreases-loop-ticks : goal.decreases-loop-ticks
decreases-loop-ticks g l = l.last + 1 - l.ticks
