use Rattle.std.proofs.Common.{◌≡◌, ◌++◌, drop, nat_lt}
use Rattle.std.specs.List.{count_by}
use Rattle.dc_build.specs.RowsOf.{bus_rows_from}
use Rattle.dc_build.proofs.assemble.bus_rows.Given as goal

abbrev pub invariant-loop-bus : goal.invariant-loop-bus
invariant-loop-bus l = (l.rows.items ++ bus_rows_from l.owners l.routers l.bus (drop l.bus l.parts) ≡ bus_rows_from l.owners l.routers 0 l.parts) × (l.first ≡ count_by (λ o. nat_lt o l.bus) l.owners)
