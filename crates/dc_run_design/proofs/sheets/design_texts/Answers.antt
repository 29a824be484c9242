use Rattle.dc_run_design.proofs.Designing.{read_inputs_of, read_outputs_of, says, says_faults}
use Rattle.dc_run_design.proofs.sheets.design_texts.Goals as goal

pub returns-in-Ok-outputs_of : goal.returns-in-Ok-outputs_of
returns-in-Ok-outputs_of c = λ ins outs i o.
    says ins outs _ _ _ _ c.design_rows.result (read_inputs_of c.args.inputs.now ins _ i c.in-Ok.ensures) (read_outputs_of c.args.outputs.now outs _ o c.in-Ok-outputs_of.ensures) c.design_rows.ensures

pub returns-in-Err-outputs_of : goal.returns-in-Err-outputs_of
returns-in-Err-outputs_of c = λ ins outs i o. says_faults ins outs _ _ c.tell_faults.result c.tell_faults.ensures

pub returns-in-Err : goal.returns-in-Err
returns-in-Err c = λ ins outs i o. says_faults ins outs _ _ c.tell_faults-in-Err.result c.tell_faults-in-Err.ensures
