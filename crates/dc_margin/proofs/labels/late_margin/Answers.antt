use Rattle.std.proofs.Common.{◌≡◌, ◌+◌, ◌≤◌, Some, sym, ap, ◌∙◌, w64, arith, rules}
use Rattle.std.proofs.lemmas.Int.{to_z-of_z}
use Rattle.dc_margin.proofs.Gaps.{greatest-small}
use Rattle.dc_margin.proofs.Told.{told-there}
use Rattle.dc_margin.specs.Margins.{room, margin_by, late_margin_of}
use Rattle.dc_margin.specs.declared.margin.Decider.TheVariants.{Gap}
use Rattle.dc_tables.specs.TableRows.{label_row}
use Rattle.dc_transmit.specs.Schedule.{schedule_of, greatest_label_gap}
use Rattle.dc_margin.proofs.labels.late_margin.Goals as goal

pub overflow_add-latest : goal.overflow_add-latest
overflow_add-latest c =
    let gap : c.max_gap-gap.result ≡ greatest_label_gap (schedule_of c.args.tables.now (label_row c.args.tables.now c.args.label).output) c.args.label =
    c.max_gap-gap.ensures ∙ ap (λ s. greatest_label_gap s c.args.label) (c.of-schedule.ensures ∙ ap (λ r. schedule_of c.args.tables.now r.output) c.label-row.ensures) in
    let small : c.max_gap-gap.result ≤ 200000 = omega (arith, gap, greatest-small c.args.tables.now c.valid.ensures c.args.label c.requires) in
    search rules

pub difference-requires-clause-y : goal.difference-requires-clause-y
difference-requires-clause-y c =
    let gap : c.max_gap-gap.result ≡ greatest_label_gap (schedule_of c.args.tables.now (label_row c.args.tables.now c.args.label).output) c.args.label =
    c.max_gap-gap.ensures ∙ ap (λ s. greatest_label_gap s c.args.label) (c.of-schedule.ensures ∙ ap (λ r. schedule_of c.args.tables.now r.output) c.label-row.ensures) in
    let small : c.max_gap-gap.result ≤ 200000 = omega (arith, gap, greatest-small c.args.tables.now c.valid.ensures c.args.label c.requires) in
    search rules

pub returns : goal.returns
returns c =
    let greatest = greatest_label_gap (schedule_of c.args.tables.now (label_row c.args.tables.now c.args.label).output) c.args.label in
    let gap : c.max_gap-gap.result ≡ greatest_label_gap (schedule_of c.args.tables.now (label_row c.args.tables.now c.args.label).output) c.args.label =
    c.max_gap-gap.ensures ∙ ap (λ s. greatest_label_gap s c.args.label) (c.of-schedule.ensures ∙ ap (λ r. schedule_of c.args.tables.now r.output) c.label-row.ensures) in
    ap (λ m. Some m) (c.gap_margin.ensures
    ∙ ap (λ z. margin_by z (Gap c.max_gap-gap.result)) (to_z-of_z w64 c.difference.result (record { sfits = c.difference.type_inv }) ∙ c.difference.ensures
    ∙ ap (λ n. room n (c.max_gap-gap.result + c.from.result)) (c.from-2.ensures ∙ ap (λ r. r.maximum) c.label-row.ensures)
    ∙ ap (λ d. room (label_row c.args.tables.now c.args.label).maximum (c.max_gap-gap.result + d)) c.from.ensures)
    ∙ ap (λ g. late_margin_of g (label_row c.args.tables.now c.args.label).maximum c.args.delay) gap)
    ∙ told-there _ (late_margin_of greatest (label_row c.args.tables.now c.args.label).maximum c.args.delay) (sym c.if-not-is_short.ensures)
