use Rattle.std.proofs.Common.{subst}
use Rattle.dc_run_design.specs.Layout.{TellsFault}
use Rattle.dc_run_design.proofs.Laying.{faulty, given_fault, lays}
use Rattle.dc_run_design.proofs.layout.lay_bytes.Goals as goal

pub returns-in-Ok : goal.returns-in-Ok
returns-in-Ok c = lays c.args.text.now c.lay_parts.new.page _ c.lay_parts.result c.in-Ok.ensures c.lay_parts.ensures

pub returns-in-Err-Refused : goal.returns-in-Err-Refused
returns-in-Err-Refused c = faulty c.args.text.now c.tell_fault.new.page c.tell_fault.result c.in-Err-Refused.fault (given_fault _ c.in-Err-Refused.field-0 c.in-Err-Refused.fault c.in-Err-Refused.field-0-is c.in-Err-Refused.ensures) c.tell_fault.ensures.outcome
    (subst (TellsFault c.tell_fault.new.page) c.in-Err-Refused.fault-is c.tell_fault.ensures.line)
