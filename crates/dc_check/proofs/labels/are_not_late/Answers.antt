use Rattle.std.proofs.Common.{◌≡◌, ◌+◌, sym, ap, ◌∙◌}
use Rattle.std.specs.Prelude.{nat_le}
use Rattle.dc_check.proofs.GapTests.{late-test, moved, over}
use Rattle.dc_tables.specs.TableRows.{label_row}
use Rattle.dc_transmit.specs.Schedule.{schedule_of, greatest_label_gap}
use Rattle.dc_check.proofs.labels.are_not_late.Goals as goal

pub returns-then-delay-greatest : goal.returns-then-delay-greatest
returns-then-delay-greatest c =
    let gap : c.max_gap.result ≡ greatest_label_gap (schedule_of c.args.tables.now (label_row c.args.tables.now c.args.label).output) c.args.label =
    c.max_gap.ensures ∙ ap (λ s. greatest_label_gap s c.args.label) (c.of-schedule.ensures ∙ ap (λ r. schedule_of c.args.tables.now r.output) c.label-row.ensures) in
    moved c.max_gap.result c.from-greatest.result c.from-delay.result c.if-delay-greatest.true
    ∙ ap (λ g. nat_le (g + c.from-delay.result) c.from-greatest.result) gap
    ∙ ap (λ d. nat_le (greatest_label_gap (schedule_of c.args.tables.now (label_row c.args.tables.now c.args.label).output) c.args.label + d) c.from-greatest.result) c.from-delay.ensures
    ∙ ap (λ b. nat_le (greatest_label_gap (schedule_of c.args.tables.now (label_row c.args.tables.now c.args.label).output) c.args.label + c.args.delay) b) (c.from-greatest.ensures ∙ ap (λ r. r.maximum) c.label-row.ensures)
    ∙ sym (late-test c.args.tables.now c.valid.ensures c.args.label c.requires (label_row c.args.tables.now c.args.label).maximum c.args.delay)

pub returns-else-delay-greatest : goal.returns-else-delay-greatest
returns-else-delay-greatest c =
    over (greatest_label_gap (schedule_of c.args.tables.now (label_row c.args.tables.now c.args.label).output) c.args.label) c.from-greatest.result c.from-delay.result c.if-delay-greatest.false
    ∙ ap (λ d. nat_le (greatest_label_gap (schedule_of c.args.tables.now (label_row c.args.tables.now c.args.label).output) c.args.label + d) c.from-greatest.result) c.from-delay.ensures
    ∙ ap (λ b. nat_le (greatest_label_gap (schedule_of c.args.tables.now (label_row c.args.tables.now c.args.label).output) c.args.label + c.args.delay) b) (c.from-greatest.ensures ∙ ap (λ r. r.maximum) c.label-row.ensures)
    ∙ sym (late-test c.args.tables.now c.valid.ensures c.args.label c.requires (label_row c.args.tables.now c.args.label).maximum c.args.delay)
