use Rattle.std.proofs.Common.{◌≤◌, ◌+◌, ◌-◌}
use Rattle.dc_busy.proofs.leaps.walk_by_leaps.Given as goal

abbrev pub invariant-loop-ticks : goal.invariant-loop-ticks
invariant-loop-ticks g l = record {
  some : 1 ≤ l.ticks;
  inside : l.ticks ≤ l.last + 1;
  knows : g.W.Watcher.knows l.watcher (g.A.ArrivalBound.cap l.arrivals) l.ticks;
}

abbrev pub decreases-loop-ticks : goal.decreases-loop-ticks
decreases-loop-ticks g l = l.last + 1 - l.ticks

abbrev pub ghosts-walk_steps : goal.ghosts-walk_steps
ghosts-walk_steps g a = record { first = a.first; last = a.last }
