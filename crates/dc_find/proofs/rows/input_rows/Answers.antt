use Rattle.std.proofs.Common.{◌≢◌, ◌+◌, List, map, sym, ap, subst, ◌∙◌, arith, rules}
use Rattle.std.specs.Prelude.{not}
use Rattle.std.specs.Result.{IfErr}
use Rattle.dc_cert.specs.NamedRows.{named_input}
use Rattle.dc_cert.specs.declared.certificate.InputRow.{InputRow}
use Rattle.dc_find.proofs.Claimed.{inputs-clear}
use Rattle.dc_find.proofs.Lists.{AreRows, row_pushed, pushed, if_err-map}
use Rattle.dc_find.proofs.Jobs.{first-of_all}
use Rattle.dc_find.specs.Rows.{IsInputRow}
use Rattle.dc_find.specs.Ways.{IsFirstOfJob, IsFirstInTheWay}
use Rattle.dc_find.specs.declared.fault.FindFault.TheVariants.{Memory}
use Rattle.dc_find.proofs.rows.input_rows.Goals as goal

pub returns-in_err-row-clause-fault : goal.returns-in_err-row-clause-fault
returns-in_err-row-clause-fault c =
    let found : IfErr c.from_residual.result (λ fault. IsFirstOfJob c.args.tables.now c.loop-bus.bus fault) = search rules in
    if_err-map c.from_residual.result (λ fault. IsFirstOfJob c.args.tables.now c.loop-bus.bus fault) (λ fault. fault ≢ Memory → IsFirstInTheWay c.args.tables.now fault) (λ fault first other. first-of_all c.args.tables.now c.loop-bus.bus fault
    (inputs-clear c.args.tables.now c.loop-bus.bus (map named_input c.loop-bus.rows.items) (omega (arith, c.loop-bus.auto.bus-end, c.bus_count-bus-end.ensures)) c.loop-bus.invariant) first) found

pub loop-bus-preserved : goal.loop-bus-preserved
loop-bus-preserved c =
    subst (λ (l : List InputRow). AreRows (IsInputRow c.args.tables.now) (c.loop-bus.bus + 1) (map named_input l))
    (sym (pushed _ _ _ _ c.push.ensures.items (c.is_err.ensures.negation ∙ ap not c.if-is_err.false)))
    (row_pushed named_input (IsInputRow c.args.tables.now) c.loop-bus.bus c.loop-bus.rows.items c.in_ok-row.row c.loop-bus.invariant c.in_ok-row.ensures.row)
