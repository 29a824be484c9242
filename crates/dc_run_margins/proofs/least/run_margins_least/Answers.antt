use Rattle.dc_run_margins.proofs.least.run_margins_least.Goals as goal

pub returns-clause-reports : goal.returns-clause-reports
returns-clause-reports g c = rw c.in_lines.ensures at c.run_margins_least_told.ensures.reports
