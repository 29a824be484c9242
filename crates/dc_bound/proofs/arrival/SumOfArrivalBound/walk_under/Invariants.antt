use Rattle.std.proofs.Common.{◌≤◌, ◌+◌, ◌-◌, IfSome, length}
use Rattle.std.specs.List.{sum_by}
use Rattle.dc_bound.specs.Window.{wire_cap}
use Rattle.dc_bound.specs.Under.{under}
use Rattle.dc_bound.specs.Terms.{KeepsTerms}
use Rattle.dc_bound.specs.declared.arrival.Wire.{Wire}
use Rattle.dc_bound.proofs.arrival.SumOfArrivalBound.walk_under.Given as goal

abbrev pub invariant-loop-ticks : goal.invariant-loop-ticks
invariant-loop-ticks g l = record {
  some : 1 ≤ l.ticks;
  inside : l.ticks ≤ l.last + 1;
  kept : IfSome l.terms (λ t. (length l.self.members.now ≤ 256) × KeepsTerms g.B.ArrivalBound.cap l.self.members.now l.ticks t);
  knows : g.W.Watcher.knows l.watcher (λ d. under (λ (w : Wire) e. wire_cap w.tick w.spacing e) l.wire d (sum_by (λ b. g.B.ArrivalBound.cap b d) l.self.members.now)) l.ticks;
}

abbrev pub decreases-loop-ticks : goal.decreases-loop-ticks
decreases-loop-ticks g l = l.last + 1 - l.ticks
