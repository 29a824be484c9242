use Rattle.std.proofs.Common.{◌+◌, true, false, refl}
use Rattle.dc_oracle.specs.Budgets.{RoutersLack, OutputsLack}
use Rattle.dc_oracle.proofs.Budgeting.{tick-breaks_router, tick-breaks_output, watches-tick}
use Rattle.dc_oracle.proofs.budgets.BudgetWatch.turn.Goals as goal

pub returns-then-router_lacks-clause-seen : goal.returns-then-router_lacks-clause-seen
returns-then-router_lacks-clause-seen c = λ run h.
    let lack : RoutersLack c.args.tables.now c.args.self.now true = c.if-router_lacks.ensures in
    tick-breaks_router c.args.tables.now c.valid.ensures c.args.self.now run h lack

pub returns-then-output_lacks-clause-seen : goal.returns-then-output_lacks-clause-seen
returns-then-output_lacks-clause-seen c = λ run h.
    let lack : OutputsLack c.args.tables.now c.args.self.now true = c.if-output_lacks.ensures in
    tick-breaks_output c.args.tables.now c.valid.ensures c.args.self.now run h lack

pub returns-clause-seen : goal.returns-clause-seen
returns-clause-seen c = λ run h.
    let rs : RoutersLack c.args.tables.now c.args.self.now false = c.if-router_lacks.ensures in
    let os : OutputsLack c.args.tables.now c.args.self.now false = c.if-output_lacks.ensures in
    watches-tick c.args.tables.now c.valid.ensures c.args.self.now run h (record { tick = c.args.self.now.tick + 1; routers = c.args.self.now.routers; outputs = c.args.self.now.outputs }) refl refl refl rs os
