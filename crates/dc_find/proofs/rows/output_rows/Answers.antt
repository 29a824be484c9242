use Rattle.std.proofs.Common.{◌≢◌, ◌+◌, List, length, map, sym, ap, subst, ◌∙◌, arith, rules}
use Rattle.std.specs.Prelude.{not}
use Rattle.std.specs.Result.{IfErr}
use Rattle.dc_cert.specs.NamedRows.{named_output}
use Rattle.dc_cert.specs.declared.certificate.OutputRow.{OutputRow}
use Rattle.dc_find.proofs.Claimed.{outputs-clear}
use Rattle.dc_find.proofs.Lists.{AreRows, row_pushed, pushed, if_err-map}
use Rattle.dc_find.proofs.Jobs.{first-of_all}
use Rattle.dc_find.specs.Rows.{IsOutputRow}
use Rattle.dc_find.specs.Ways.{IsFirstOfJob, IsFirstInTheWay}
use Rattle.dc_find.specs.declared.fault.FindFault.TheVariants.{Memory}
use Rattle.dc_find.proofs.rows.output_rows.Goals as goal

pub returns-in_err-row-clause-fault : goal.returns-in_err-row-clause-fault
returns-in_err-row-clause-fault c =
    let found : IfErr c.from_residual.result (λ fault. IsFirstOfJob c.args.tables.now (length c.args.tables.now.buses + c.loop-output.output) fault) = search rules in
    if_err-map c.from_residual.result (λ fault. IsFirstOfJob c.args.tables.now (length c.args.tables.now.buses + c.loop-output.output) fault) (λ fault. fault ≢ Memory → IsFirstInTheWay c.args.tables.now fault) (λ fault first other. first-of_all c.args.tables.now (length c.args.tables.now.buses + c.loop-output.output) fault
    (outputs-clear c.args.tables.now c.loop-output.output (map named_output c.loop-output.rows.items) (omega (arith, c.loop-output.auto.output-end, c.output_count-output-end.ensures)) c.requires c.loop-output.invariant) first) found

pub loop-output-preserved : goal.loop-output-preserved
loop-output-preserved c =
    subst (λ (l : List OutputRow). AreRows (IsOutputRow c.args.tables.now) (c.loop-output.output + 1) (map named_output l))
    (sym (pushed _ _ _ _ c.push.ensures.items (c.is_err.ensures.negation ∙ ap not c.if-is_err.false)))
    (row_pushed named_output (IsOutputRow c.args.tables.now) c.loop-output.output c.loop-output.rows.items c.in_ok-row.row c.loop-output.invariant c.in_ok-row.ensures.row)
