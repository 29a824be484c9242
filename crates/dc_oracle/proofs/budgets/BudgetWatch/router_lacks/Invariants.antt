use Rattle.std.proofs.Common.{◌≡◌, ℕ, ◌<◌, false}
use Rattle.dc_oracle.specs.Budgets.{router_lacks}
use Rattle.dc_oracle.proofs.budgets.BudgetWatch.router_lacks.Given as goal

abbrev pub invariant-loop-r : goal.invariant-loop-r
invariant-loop-r l = (r : ℕ) → r < l.r → router_lacks l.tables l.self r ≡ false
