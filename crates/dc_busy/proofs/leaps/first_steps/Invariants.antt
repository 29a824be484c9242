use Rattle.std.proofs.Common.{◌≤◌, ◌+◌}
use Rattle.dc_busy.proofs.leaps.first_steps.Given as goal

abbrev pub invariant-loop : goal.invariant-loop
invariant-loop g l = record {
  later : l.first ≤ l.ticks;
  inside : l.ticks ≤ l.last + 1;
  knows : g.W.Watcher.knows l.watcher (g.A.ArrivalBound.cap l.arrivals) l.ticks;
}
