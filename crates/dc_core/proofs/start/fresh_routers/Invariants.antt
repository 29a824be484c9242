use Rattle.dc_core.specs.Fresh.{fresh_router, AllMade}
use Rattle.dc_core.specs.States.{no_router}
use Rattle.dc_core.proofs.start.fresh_routers.Given as goal

abbrev pub invariant-loop-r : goal.invariant-loop-r
invariant-loop-r l = AllMade (fresh_router l.tables) no_router l.r l.routers.items
