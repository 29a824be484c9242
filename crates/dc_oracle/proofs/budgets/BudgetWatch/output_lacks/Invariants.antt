use Rattle.std.proofs.Common.{◌≡◌, ℕ, ◌<◌, false}
use Rattle.dc_oracle.specs.Budgets.{output_lacks}
use Rattle.dc_oracle.proofs.budgets.BudgetWatch.output_lacks.Given as goal

abbrev pub invariant-loop-o : goal.invariant-loop-o
invariant-loop-o l = (o : ℕ) → o < l.o → output_lacks l.tables l.self o ≡ false
