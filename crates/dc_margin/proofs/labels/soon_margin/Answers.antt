use Rattle.std.proofs.Common.{◌≡◌, ◌+◌, Some, sym, ap, ◌∙◌, w64, arith}
use Rattle.std.proofs.lemmas.Int.{to_z-of_z}
use Rattle.dc_margin.proofs.Gaps.{least-small}
use Rattle.dc_margin.proofs.Told.{told-there}
use Rattle.dc_margin.specs.Margins.{room, margin_by, soon_margin_of}
use Rattle.dc_margin.specs.declared.margin.Decider.TheVariants.{Gap}
use Rattle.dc_tables.specs.TableRows.{label_row}
use Rattle.dc_transmit.specs.Schedule.{schedule_of, least_label_gap}
use Rattle.dc_margin.proofs.labels.soon_margin.Goals as goal

pub difference-requires-clause-x : goal.difference-requires-clause-x
difference-requires-clause-x c =
    let gap : c.min_gap-gap.result ≡ least_label_gap (schedule_of c.args.tables.now (label_row c.args.tables.now c.args.label).output) c.args.label =
    c.min_gap-gap.ensures ∙ ap (λ s. least_label_gap s c.args.label) (c.of-schedule.ensures ∙ ap (λ r. schedule_of c.args.tables.now r.output) c.label-row.ensures) in
    omega (arith, gap, least-small c.args.tables.now c.valid.ensures c.args.label c.requires)

pub returns : goal.returns
returns c =
    let least = least_label_gap (schedule_of c.args.tables.now (label_row c.args.tables.now c.args.label).output) c.args.label in
    let gap : c.min_gap-gap.result ≡ least_label_gap (schedule_of c.args.tables.now (label_row c.args.tables.now c.args.label).output) c.args.label =
    c.min_gap-gap.ensures ∙ ap (λ s. least_label_gap s c.args.label) (c.of-schedule.ensures ∙ ap (λ r. schedule_of c.args.tables.now r.output) c.label-row.ensures) in
    let sum : c.from.result + c.from-2.result ≡ (label_row c.args.tables.now c.args.label).minimum + c.args.delay = omega (arith, c.from.ensures, c.from-2.ensures, ap (λ r. r.minimum) c.label-row.ensures) in
    ap (λ m. Some m) (c.gap_margin.ensures
    ∙ ap (λ z. margin_by z (Gap c.min_gap-gap.result)) (to_z-of_z w64 c.difference.result (record { sfits = c.difference.type_inv }) ∙ c.difference.ensures ∙ ap (room c.min_gap-gap.result) sum)
    ∙ ap (λ g. soon_margin_of g (label_row c.args.tables.now c.args.label).minimum c.args.delay) gap)
    ∙ told-there _ (soon_margin_of least (label_row c.args.tables.now c.args.label).minimum c.args.delay) (sym c.if-not-is_short.ensures)
