use Rattle.dc_run.proofs.check.judge.Goals as goal

pub returns : goal.returns
returns c = rw c.tell.ensures c.print_verdict-outcome.ensures
