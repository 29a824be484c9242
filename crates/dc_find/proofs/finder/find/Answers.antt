use Rattle.std.proofs.Common.{◌≢◌, List, length, map, subst, arith, rules}
use Rattle.std.specs.Result.{IfErr}
use Rattle.dc_cert.specs.Bounds.{numbers_of}
use Rattle.dc_cert.specs.NamedRows.{named_rows, named_input, named_label}
use Rattle.dc_cert.specs.declared.certificate.InputRow.{InputRow}
use Rattle.dc_find.proofs.Broken.{age-older}
use Rattle.dc_find.proofs.Claimed.{inputs-clear, least-accepted}
use Rattle.dc_find.proofs.Lists.{if_err-map}
use Rattle.dc_find.proofs.Jobs.{none-accepted}
use Rattle.dc_find.specs.Least.{NoneAccepted}
use Rattle.dc_find.specs.Rows.{AreLabelRows}
use Rattle.dc_find.specs.Ways.{IsFirstInTheWay}
use Rattle.dc_find.specs.declared.fault.FindFault.TheVariants.{Memory}
use Rattle.dc_find.proofs.finder.find.Goals as goal

pub returns-in_err-inputs-clause-none : goal.returns-in_err-inputs-clause-none
returns-in_err-inputs-clause-none c =
    let found : IfErr c.from_residual.result (λ fault. fault ≢ Memory → IsFirstInTheWay c.args.tables.now fault) = search rules in
    if_err-map c.from_residual.result (λ fault. fault ≢ Memory → IsFirstInTheWay c.args.tables.now fault) (λ fault. fault ≢ Memory → NoneAccepted c.args.tables.now) (λ fault first other. none-accepted c.args.tables.now fault (first other).stands) found

pub output_rows-requires : goal.output_rows-requires
output_rows-requires c =
    let rows = c.in_ok-inputs.ensures.rows in
    inputs-clear c.args.tables.now (length c.args.tables.now.buses) (map named_input c.in_ok-inputs.inputs.items) (omega arith) (record { count = rows.count; each = rows.each })

pub returns-in_err-outputs-clause-none : goal.returns-in_err-outputs-clause-none
returns-in_err-outputs-clause-none c =
    let found : IfErr c.from_residual-in_err-outputs.result (λ fault. fault ≢ Memory → IsFirstInTheWay c.args.tables.now fault) = search rules in
    if_err-map c.from_residual-in_err-outputs.result (λ fault. fault ≢ Memory → IsFirstInTheWay c.args.tables.now fault) (λ fault. fault ≢ Memory → NoneAccepted c.args.tables.now) (λ fault first other. none-accepted c.args.tables.now fault (first other).stands) found

pub returns-in-None-clause-least : goal.returns-in-None-clause-least
returns-in-None-clause-least c =
    let inputs = c.in_ok-inputs.ensures.rows in
    let outputs = c.in_ok-outputs.ensures.rows in
    let labels : AreLabelRows c.args.tables.now (map named_input c.in_ok-inputs.inputs.items) (map named_label c.in_ok-labels.labels.items) =
    subst (λ (l : List InputRow). AreLabelRows c.args.tables.now (map named_input l) (map named_label c.in_ok-labels.labels.items)) c.as_slice.ensures.value c.in_ok-labels.ensures in
    least-accepted c.args.tables.now (named_rows (record { inputs = c.in_ok-inputs.inputs; outputs = c.in_ok-outputs.outputs; labels = c.in_ok-labels.labels })) c.named.ensures inputs outputs labels
    c.in-None.ensures
    (λ other ok x there.
    age-older c.args.tables.now c.valid.ensures (named_rows (record { inputs = c.in_ok-inputs.inputs; outputs = c.in_ok-outputs.outputs; labels = c.in_ok-labels.labels })) inputs outputs
    (numbers_of other) (record { inputs = ok.numbers.inputs; outputs = ok.numbers.outputs }) x there _ (ok.numbers.labels x there).age.aged)

pub returns-in-Some-clause-none : goal.returns-in-Some-clause-none
returns-in-Some-clause-none c = λ other. none-accepted c.args.tables.now c.in-Some.fault c.in-Some.ensures.stands
