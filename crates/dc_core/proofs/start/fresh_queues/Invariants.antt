use Rattle.dc_route.specs.Routing.{no_queue}
use Rattle.dc_core.specs.Fresh.{fresh_queue, AllMade}
use Rattle.dc_core.proofs.start.fresh_queues.Given as goal

abbrev pub invariant-loop-b : goal.invariant-loop-b
invariant-loop-b l = AllMade (fresh_queue l.tables) no_queue l.b l.queues.items
