use Rattle.std.proofs.Common.{◌≡◌, take, map}
use Rattle.dc_build.specs.RowsOf.{router_row_of}
use Rattle.dc_build.proofs.assemble.router_rows.Given as goal

abbrev pub invariant-loop-part : goal.invariant-loop-part
invariant-loop-part l = l.rows.items ≡ map (router_row_of l.buses) (take l.part-index l.parts)
