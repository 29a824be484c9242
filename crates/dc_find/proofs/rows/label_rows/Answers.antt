use Rattle.std.proofs.Common.{◌+◌, List, map, sym, subst}
use Rattle.dc_cert.specs.NamedRows.{named_input, named_label}
use Rattle.dc_cert.specs.declared.certificate.LabelRow.{LabelRow}
use Rattle.dc_find.proofs.Lists.{AreRows, row_pushed}
use Rattle.dc_find.specs.Rows.{IsLabelRow}
use Rattle.dc_find.proofs.rows.label_rows.Goals as goal

pub loop-label-preserved : goal.loop-label-preserved
loop-label-preserved c =
    subst (λ (l : List LabelRow). AreRows (IsLabelRow c.args.tables.now (map named_input c.args.inputs.now)) (c.loop-label.label + 1) (map named_label l)) (sym c.in_ok-push.ensures.items)
    (row_pushed named_label (IsLabelRow c.args.tables.now (map named_input c.args.inputs.now)) c.loop-label.label c.loop-label.rows.items c.label_row.result c.loop-label.invariant c.label_row.ensures)
