use Rattle.std.proofs.Common.{subst}
use Rattle.dc_cert.specs.NamedRows.{named_rows}
use Rattle.dc_check.specs.Lent.{certificate_of}
use Rattle.dc_tables.specs.TableRows.{TableRows}
use Rattle.dc_within.specs.Within.{AcceptedHave, InputsWithin, OutputsWithin, LabelsWithin}
use Rattle.dc_within.proofs.certified.observed_stay_within.Goals as goal

pub returns : goal.returns
returns c = λ run keeps.
    (let I : TableRows → Type 0 = λ t. AcceptedHave InputsWithin t in
    let O : TableRows → Type 0 = λ t. AcceptedHave OutputsWithin t in
    let L : TableRows → Type 0 = λ t. AcceptedHave LabelsWithin t in
    let ok = c.keeps_its_claims.ensures.accepted in
    record {
      inputs = subst I c.tables-tables.ensures c.inputs_stay_within.ensures (named_rows (certificate_of c.args.certified.now)) ok run keeps;
      outputs = subst O c.tables-tables.ensures c.outputs_stay_within.ensures (named_rows (certificate_of c.args.certified.now)) ok run keeps;
      labels = subst L c.tables-tables.ensures c.labels_stay_within.ensures (named_rows (certificate_of c.args.certified.now)) ok run keeps;
    })
