use Rattle.dc_run_design.proofs.Laying.{faulty, long_sheet, too_long}
use Rattle.dc_run_design.proofs.layout.lay_text.Goals as goal

pub returns-in-None : goal.returns-in-None
returns-in-None c = λ text long. faulty text c.tell_fault.new.page c.tell_fault.result _ (too_long text (long_sheet c.args.tables.now text c.in-None.is long)) c.tell_fault.ensures.outcome c.tell_fault.ensures.line
