use Rattle.std.proofs.Common.{◌≡◌, ◌≤◌, ◌+◌, ◌-◌, length}
use Rattle.dc_bound.specs.Frame.{cyclic_cap}
use Rattle.dc_bound.specs.Splits.{IsSplit, ArePastSpans}
use Rattle.dc_bound.proofs.cyclic.CyclicArrivalBound.walk.Given as goal

abbrev pub invariant-loop-ticks : goal.invariant-loop-ticks
invariant-loop-ticks g l = record {
  some : 1 ≤ l.ticks;
  inside : l.ticks ≤ l.last;
  count : l.count ≡ cyclic_cap l.self.frame l.self.offsets.now l.ticks;
  split : IsSplit l.self.frame (length l.self.offsets.now) l.count l.whole l.rest;
  known : ArePastSpans l.self.frame l.self.offsets.now l.known.past;
  knows : g.W.Watcher.knows l.watcher (cyclic_cap l.self.frame l.self.offsets.now) l.ticks;
}

abbrev pub decreases-loop-ticks : goal.decreases-loop-ticks
decreases-loop-ticks g l = l.last + 1 - l.ticks
