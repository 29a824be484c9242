use Rattle.std.proofs.Common.{List, map, sym, subst}
use Rattle.dc_cert.specs.NamedRows.{named_rows, named_input, named_label}
use Rattle.dc_cert.specs.declared.certificate.InputRow.{InputRow}
use Rattle.dc_find.proofs.Reaching.{close-below, found, reached}
use Rattle.dc_find.specs.Reached.{CloseBelow}
use Rattle.dc_find.specs.Rows.{AreLabelRows}
use Rattle.dc_find.proofs.reached.reach.Goals as goal

pub returns-clause-found : goal.returns-clause-found
returns-clause-found c =
    let labels : AreLabelRows c.args.tables.now (map named_input c.in_ok-inputs.inputs.items) (map named_label c.in_ok-labels.labels.items) =
    subst (λ (l : List InputRow). AreLabelRows c.args.tables.now (map named_input l) (map named_label c.in_ok-labels.labels.items)) c.as_slice.ensures.value c.in_ok-labels.ensures in
    found c.args.tables.now (named_rows (record { inputs = c.in_ok-inputs.inputs; outputs = c.in_ok-outputs.outputs; labels = c.in_ok-labels.labels }))
    c.named.ensures c.in_ok-inputs.ensures c.in_ok-outputs.ensures labels

pub returns-clause-reached : goal.returns-clause-reached
returns-clause-reached c =
    reached c.args.tables.now c.jobs_before-jobs.result (named_rows (record { inputs = c.in_ok-inputs.inputs; outputs = c.in_ok-outputs.outputs; labels = c.in_ok-labels.labels }))
    (subst (CloseBelow c.args.tables.now) (sym c.jobs_before-jobs.ensures.jobs) (close-below c.args.tables.now c.args.fault c.requires))
    (returns-clause-found c)
