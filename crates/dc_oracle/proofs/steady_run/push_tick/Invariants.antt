use Rattle.std.proofs.Common.{◌≡◌, ◌++◌, length}
use Rattle.dc_event.specs.Steady.{each_below, router_steps, output_steps}
use Rattle.dc_oracle.proofs.steady_run.push_tick.Given as goal

abbrev pub invariant-loop-router : goal.invariant-loop-router
invariant-loop-router l = l.run.items ≡ l.fn.run.items ++ each_below (router_steps l.tables) l.router

abbrev pub invariant-loop-output : goal.invariant-loop-output
invariant-loop-output l =
    l.run.items ≡ (l.fn.run.items ++ each_below (router_steps l.tables) (length l.tables.routers)) ++ each_below (output_steps l.tables l.tick) l.output
