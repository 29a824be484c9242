use Rattle.std.proofs.Common.{◌≡◌, ℕ, take, length}
use Rattle.std.specs.List.{sum_by}
use Rattle.dc_tables.specs.Bounds.{jittered_cap}
use Rattle.dc_tables.specs.TableRows.{stream_cap}
use Rattle.dc_tables.proofs.alike.stream_bounds.Given as goal

abbrev pub invariant-loop-stream : goal.invariant-loop-stream
invariant-loop-stream l = record {
  number : length l.bounds.items ≡ l.stream-index;
  sum : (d : ℕ) → sum_by (jittered_cap d) l.bounds.items ≡ sum_by (stream_cap d) (take l.stream-index l.streams);
}
