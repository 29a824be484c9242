use Rattle.std.proofs.Common.{◌≡◌, ◌+◌, ◌∙◌, ℕ, Bool, Some, None, List, [], ◌∷◌, ◌++◌, length, refl, sym, ap, subst, arith}
use Rattle.dc_event.specs.Admissible.{KeepsBudgets}
use Rattle.dc_event.specs.Breaks.{IsFirstBreak}
use Rattle.dc_event.specs.lemmas.Beginnings.{KeepsBudgets-beginning}
use Rattle.dc_oracle.specs.Budgets.{Watches, Seen}
use Rattle.dc_oracle.proofs.Coursing.{no_place, first-now, first-none, longer}
use Rattle.dc_oracle.proofs.courses.BudgetCourse.step.Goals as goal

pub returns-then-not-see-clause-tells : goal.returns-then-not-see-clause-tells
returns-then-not-see-clause-tells c = λ run h.
    let none : c.args.self.now.broken ≡ None = no_place c.args.self.now.broken (sym c.is_some.ensures ∙ c.if-is_some.false) in
    let stood : Watches c.args.tables.now c.args.self.now.watch run = h.watch none in
    let P : Bool → Type 0 = λ b. Seen c.args.tables.now c.see.new.self run c.args.event b in
    let seen : ¬ KeepsBudgets c.args.tables.now (run ++ c.args.event ∷ []) = subst P c.if-not-see.true (c.see.ensures.seen run stood) in
    let Q : ℕ → Type 0 = λ n. IsFirstBreak (KeepsBudgets c.args.tables.now) (run ++ c.args.event ∷ []) (Some (n + 1)) in
    record {
      count = omega (arith, h.count, longer run c.args.event);
      place = subst Q (sym h.count) (first-now (KeepsBudgets c.args.tables.now) (KeepsBudgets-beginning c.args.tables.now) run c.args.event stood.kept seen);
      watch = λ e. absurd cc;
    }

pub returns-else-not-see-clause-tells : goal.returns-else-not-see-clause-tells
returns-else-not-see-clause-tells c = λ run h.
    let none : c.args.self.now.broken ≡ None = no_place c.args.self.now.broken (sym c.is_some.ensures ∙ c.if-is_some.false) in
    let stood : Watches c.args.tables.now c.args.self.now.watch run = h.watch none in
    let P : Bool → Type 0 = λ b. Seen c.args.tables.now c.see.new.self run c.args.event b in
    let seen : Watches c.args.tables.now c.see.new.self (run ++ c.args.event ∷ []) = subst P c.if-not-see.false (c.see.ensures.seen run stood) in
    record {
      count = omega (arith, h.count, longer run c.args.event);
      place = rw none (first-none (KeepsBudgets c.args.tables.now) (KeepsBudgets-beginning c.args.tables.now) run c.args.event seen.kept);
      watch = λ e. seen;
    }
