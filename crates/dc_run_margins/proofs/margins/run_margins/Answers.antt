use Rattle.dc_run_margins.proofs.margins.run_margins.Goals as goal

pub returns-clause-reports : goal.returns-clause-reports
returns-clause-reports g c = rw c.in_lines.ensures at c.run_margins_told.ensures.reports
