use Rattle.std.proofs.Common.{◌≡◌, ◌∙◌, ℕ, Bool, true, false, rules, List, Some, refl, sym, ap, subst}
use Rattle.std.specs.Prelude.{filter}
use Rattle.dc_tables.specs.TableRows.{label_row}
use Rattle.dc_tables.specs.declared.rows.OutputLabel.{OutputLabel}
use Rattle.dc_event.specs.Choice.{head}
use Rattle.dc_oracle.specs.Replies.{all_fresh, is_wanted}
use Rattle.dc_oracle.proofs.Choosing.{none-fresh, none-wanted, first-wanted}
use Rattle.dc_oracle.proofs.replies.ReplyWatch.first_fresh.Goals as goal
use Rattle.dc_oracle.proofs.replies.ReplyWatch.first_fresh.Goals.{in-Some+else-is_wanted, in_default}

pub loop-source-init : goal.loop-source-init
unfolding all_fresh
loop-source-init c = refl

pub returns-then-is_wanted : goal.returns-then-is_wanted
returns-then-is_wanted c =
    let p : ℕ × ℕ → Bool = λ d. is_wanted c.args.usable c.args.tables.now c.args.label d.1 in
    let P : List ℕ → Type 0 = λ xs. Some (c.in-Some.stream, c.in-Some.word) ≡ head (filter (λ d. is_wanted c.args.usable c.args.tables.now c.args.label d.1) (all_fresh c.args.tables.now c.args.self.now c.args.label xs)) in
    let good : is_wanted c.args.usable c.args.tables.now c.args.label c.in-Some.word ≡ true = search rules in
    let found : Some (c.in-Some.stream, c.in-Some.word) ≡ head (filter (λ d. is_wanted c.args.usable c.args.tables.now c.args.label d.1) (all_fresh c.args.tables.now c.args.self.now c.args.label (label_row c.args.tables.now c.args.label).sources)) =
    subst P (c.as_slice-source-items.ensures ∙ ap (λ (r : OutputLabel). r.sources) c.label-row.ensures)
    (first-wanted c.args.tables.now c.args.self.now c.args.label p c.as_slice-source-items.result.now c.loop-source.source-index (c.in-Some.stream, c.in-Some.word) c.loop-source-test.true c.loop-source.invariant
    (sym c.fresh.ensures ∙ c.in-Some.is) good) in
    search rules

pub loop-source-preserved : goal.loop-source-preserved
loop-source-preserved c =
    let p : ℕ × ℕ → Bool = λ d. is_wanted c.args.usable c.args.tables.now c.args.label d.1 in
    elim c.match-fresh.branch [
      | in-Some+else-is_wanted w ↦
          let bad : is_wanted c.args.usable c.args.tables.now c.args.label w.in-Some.word ≡ false = search rules in
          none-wanted c.args.tables.now c.args.self.now c.args.label p c.as_slice-source-items.result.now c.loop-source.source-index (w.in-Some.stream, w.in-Some.word) c.loop-source-test.true c.loop-source.invariant
          (sym c.fresh.ensures ∙ w.in-Some.is) bad
      | in_default w ↦
          none-fresh c.args.tables.now c.args.self.now c.args.label p c.as_slice-source-items.result.now c.loop-source.source-index c.loop-source-test.true c.loop-source.invariant (sym c.fresh.ensures ∙ w.in_default.is)
    ]
