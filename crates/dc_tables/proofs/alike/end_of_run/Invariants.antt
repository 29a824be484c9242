use Rattle.std.proofs.Common.{◌≡◌, ℕ, ◌+◌, ◌*◌, ◌-◌, ◌≤◌, take, length}
use Rattle.std.specs.List.{sum_by}
use Rattle.dc_tables.specs.Bounds.{jittered_cap}
use Rattle.dc_tables.proofs.alike.end_of_run.Given as goal

abbrev pub invariant-loop-end : goal.invariant-loop-end
invariant-loop-end l = record {
  order : l.from ≤ l.end;
  inside : l.end ≤ length l.bounds;
  sum : (d : ℕ) → sum_by (jittered_cap d) (take l.end l.bounds) ≡ sum_by (jittered_cap d) (take l.from l.bounds) + (l.end - l.from) * jittered_cap d l.first;
}

abbrev pub decreases-loop-end : goal.decreases-loop-end
decreases-loop-end l = length l.bounds - l.end
