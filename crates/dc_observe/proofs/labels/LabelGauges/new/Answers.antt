use Rattle.std.proofs.Common.{[], sym, subst, arith}
use Rattle.dc_observe.specs.Labels.{IsLabelGauge}
use Rattle.dc_observe.specs.declared.labels.LabelGauge.{LabelGauge}
use Rattle.dc_observe.proofs.Sending.{gauge-nil}
use Rattle.dc_observe.proofs.labels.LabelGauges.new.Goals as goal

pub returns-clause-gauged : goal.returns-clause-gauged
returns-clause-gauged c = λ x l.
    let P : LabelGauge → Type 0 = λ g. IsLabelGauge c.args.tables.now x [] g in
    subst P (sym (c.in_ok-all_of.ensures.1 x (omega (arith, l, c.label_count.ensures)))) (gauge-nil c.args.tables.now x)
