use Rattle.std.proofs.Common.{[]}
use Rattle.dc_oracle.specs.Fresh.{AllMade}
use Rattle.dc_oracle.specs.Budgets.{last_steps, router_room, no_steps}
use Rattle.dc_oracle.proofs.budgets.no_router_steps.Given as goal

abbrev pub invariant-loop-router : goal.invariant-loop-router
invariant-loop-router l = AllMade (λ k. last_steps (router_room l.tables k) []) no_steps l.router l.routers.items
