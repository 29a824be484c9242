use Rattle.std.proofs.Common.{◌≡◌, ℕ, ◌-◌, ◌≤◌, take, length}
use Rattle.std.specs.List.{sum_by}
use Rattle.dc_tables.specs.Bounds.{alike_cap, jittered_cap}
use Rattle.dc_tables.proofs.alike.runs_of.Given as goal

abbrev pub invariant-loop-at : goal.invariant-loop-at
invariant-loop-at l = record {
  inside : l.at ≤ length l.bounds;
  sum : (d : ℕ) → sum_by (alike_cap d) l.runs.items ≡ sum_by (jittered_cap d) (take l.at l.bounds);
}

abbrev pub decreases-loop-at : goal.decreases-loop-at
decreases-loop-at l = length l.bounds - l.at
