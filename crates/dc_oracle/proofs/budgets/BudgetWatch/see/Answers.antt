use Rattle.std.proofs.Common.{[], ◌∷◌, ◌++◌, sym, refl, subst}
use Rattle.dc_event.specs.declared.event.Event.{Event}
use Rattle.dc_event.specs.declared.event.Event.TheVariants.{Arrive}
use Rattle.dc_oracle.specs.Budgets.{Watches}
use Rattle.dc_oracle.proofs.Budgeting.{watches-other}
use Rattle.dc_oracle.proofs.budgets.BudgetWatch.see.Goals as goal

pub returns-in-Arrive-clause-seen : goal.returns-in-Arrive-clause-seen
returns-in-Arrive-clause-seen c = λ run h.
    let P : Event → Type 0 = λ e. Watches c.args.tables.now c.args.self.now (run ++ e ∷ []) in
    subst P (sym c.in-Arrive.is) (watches-other c.args.tables.now c.args.self.now run (Arrive c.in-Arrive.field-0 c.in-Arrive.field-1) refl (λ r l. refl) (λ o l. refl) h)
