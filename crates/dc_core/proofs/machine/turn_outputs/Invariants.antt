use Rattle.std.proofs.Common.{◌≡◌, ℕ, ◌<◌, ◌≤◌, length, slice_index_or}
use Rattle.dc_core.specs.States.{no_output, output_turned}
use Rattle.dc_core.proofs.machine.turn_outputs.Given as goal

abbrev pub invariant-loop-i : goal.invariant-loop-i
invariant-loop-i l = record {
  len : length l.outputs.items ≡ length l.fn.outputs.items;
  done : (k : ℕ) → k < l.i → slice_index_or l.outputs.items k no_output ≡ output_turned (slice_index_or l.fn.outputs.items k no_output);
  left : (k : ℕ) → l.i ≤ k → slice_index_or l.outputs.items k no_output ≡ slice_index_or l.fn.outputs.items k no_output;
}
