use Rattle.std.proofs.Common.{◌≡◌, length}
use Rattle.dc_document.specs.declared.limits.TheConstants.{MOST_ROUTERS}
use Rattle.dc_run.specs.Printing.{KeepsFirst}
use Rattle.dc_run.proofs.printer.router_texts.Given as goal

abbrev pub invariant-loop-router : goal.invariant-loop-router
invariant-loop-router l = record {
  room : length l.texts ≡ MOST_ROUTERS;
  kept : KeepsFirst l.texts l.tables.names.routers l.router;
}
