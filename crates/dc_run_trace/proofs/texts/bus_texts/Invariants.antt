use Rattle.std.proofs.Common.{◌≡◌, length}
use Rattle.dc_document.specs.declared.limits.TheConstants.{MOST_BUSES}
use Rattle.dc_run_trace.specs.Names.{KeepsFirst}
use Rattle.dc_run_trace.proofs.texts.bus_texts.Given as goal

abbrev pub invariant-loop-bus : goal.invariant-loop-bus
invariant-loop-bus l = record {
  room : length l.texts ≡ MOST_BUSES;
  kept : KeepsFirst l.texts l.tables.names.buses l.bus;
}
