use Rattle.std.proofs.Common.{◌≡◌, length}
use Rattle.dc_document.specs.declared.limits.TheConstants.{MOST_OUTPUTS}
use Rattle.dc_run.specs.Printing.{KeepsFirst}
use Rattle.dc_run.proofs.printer.output_texts.Given as goal

abbrev pub invariant-loop-output : goal.invariant-loop-output
invariant-loop-output l = record {
  room : length l.texts ≡ MOST_OUTPUTS;
  kept : KeepsFirst l.texts l.tables.names.outputs l.output;
}
