use Rattle.std.proofs.Common.{refl}
use Rattle.dc_oracle.proofs.Budgeting.{watches-nothing}
use Rattle.dc_oracle.proofs.budgets.BudgetWatch.new.Goals as goal

pub returns-clause-watches : goal.returns-clause-watches
returns-clause-watches c = watches-nothing c.args.tables.now _ c.valid.ensures refl c.in_ok-no_router_steps.ensures c.in_ok-no_output_steps.ensures
