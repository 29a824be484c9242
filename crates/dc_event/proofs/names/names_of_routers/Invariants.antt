use Rattle.dc_event.specs.LongNames.{AreNamesFound}
use Rattle.dc_event.proofs.names.names_of_routers.Given as goal

abbrev pub invariant-loop-router : goal.invariant-loop-router
invariant-loop-router l = AreNamesFound l.tables.names.routers l.names
