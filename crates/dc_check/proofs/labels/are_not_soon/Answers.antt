use Rattle.std.proofs.Common.{◌≡◌, ◌+◌, sym, ap, ◌∙◌, arith}
use Rattle.std.specs.Prelude.{nat_le}
use Rattle.dc_check.proofs.GapTests.{soon-test}
use Rattle.dc_tables.specs.TableRows.{label_row}
use Rattle.dc_transmit.specs.Schedule.{schedule_of, least_label_gap}
use Rattle.dc_check.proofs.labels.are_not_soon.Goals as goal

pub returns : goal.returns
returns c =
    let sum : c.from.result + c.from-2.result ≡ (label_row c.args.tables.now c.args.label).minimum + c.args.delay = omega (arith, c.from.ensures, c.from-2.ensures, ap (λ r. r.minimum) c.label-row.ensures) in
    let gap : c.min_gap.result ≡ least_label_gap (schedule_of c.args.tables.now (label_row c.args.tables.now c.args.label).output) c.args.label =
    c.min_gap.ensures ∙ ap (λ s. least_label_gap s c.args.label) (c.of-schedule.ensures ∙ ap (λ r. schedule_of c.args.tables.now r.output) c.label-row.ensures) in
    ap (λ k. nat_le k c.min_gap.result) sum
    ∙ ap (λ k. nat_le ((label_row c.args.tables.now c.args.label).minimum + c.args.delay) k) gap
    ∙ sym (soon-test c.args.tables.now c.valid.ensures c.args.label c.requires ((label_row c.args.tables.now c.args.label).minimum + c.args.delay))
