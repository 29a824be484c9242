use Rattle.std.proofs.Common.{ℕ, ◌≤◌, ◌<◌, map}
use Rattle.std.specs.Prelude.{slice_index}
use Rattle.dc_cert.specs.NamedRows.{named_input}
use Rattle.dc_check.specs.Accepts.{source_delay}
use Rattle.dc_find.specs.Rows.{inputs_alone}
use Rattle.dc_find.proofs.rows.least_age.Given as goal

abbrev pub invariant-loop-stream : goal.invariant-loop-stream
invariant-loop-stream l = record {
  short : l.delay ≤ 100001;
  covers : (k : ℕ) → k < l.stream-index → source_delay l.tables (inputs_alone (map named_input l.inputs)) (slice_index l.sources k) ≤ l.delay;
  least : (n : ℕ) → ((k : ℕ) → k < l.stream-index → source_delay l.tables (inputs_alone (map named_input l.inputs)) (slice_index l.sources k) ≤ n) → l.delay ≤ n;
}
