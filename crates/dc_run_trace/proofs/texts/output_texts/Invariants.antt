use Rattle.std.proofs.Common.{◌≡◌, length}
use Rattle.dc_document.specs.declared.limits.TheConstants.{MOST_OUTPUTS}
use Rattle.dc_run_trace.specs.Names.{KeepsFirst}
use Rattle.dc_run_trace.proofs.texts.output_texts.Given as goal

abbrev pub invariant-loop-output : goal.invariant-loop-output
invariant-loop-output l = record {
  room : length l.texts ≡ MOST_OUTPUTS;
  kept : KeepsFirst l.texts l.tables.names.outputs l.output;
}
