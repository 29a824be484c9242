use Rattle.std.proofs.Common.{◌≤◌, ◌+◌, ◌-◌}
use Rattle.dc_bound.specs.Window.{wire_cap}
use Rattle.dc_bound.specs.Under.{under}
use Rattle.dc_bound.specs.declared.arrival.Wire.{Wire}
use Rattle.dc_bound.proofs.arrival.ArrivalBound.walk_under.Given as goal

abbrev pub invariant-loop-ticks : goal.invariant-loop-ticks
invariant-loop-ticks g l = record {
  some : 1 ≤ l.ticks;
  inside : l.ticks ≤ l.last + 1;
  knows : g.W.Watcher.knows l.watcher (λ d. under (λ (w : Wire) e. wire_cap w.tick w.spacing e) l.wire d (g.Self.ArrivalBound.cap l.self d)) l.ticks;
}

abbrev pub decreases-loop-ticks : goal.decreases-loop-ticks
decreases-loop-ticks g l = l.last + 1 - l.ticks
