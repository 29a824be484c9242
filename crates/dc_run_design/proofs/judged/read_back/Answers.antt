use Rattle.dc_run_design.proofs.judged.read_back.Goals as goal

pub returns-in-Ok : goal.returns-in-Ok
returns-in-Ok c = c.in-Ok.ensures
