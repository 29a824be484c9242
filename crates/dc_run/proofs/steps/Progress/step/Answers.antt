use Rattle.dc_run.proofs.StepLemmas.{carried, declined}
use Rattle.dc_run.proofs.steps.Progress.step.Goals as goal

pub returns-in-Ok-clause-step : goal.returns-in-Ok-clause-step
returns-in-Ok-clause-step c = λ done at. carried _ _ _ _ done _ _ c.in-Ok.ensures.tables at (c.in-Ok.ensures.step done at.stands) c.tick_behind-next_tick.ensures

pub returns-in-Err-clause-step : goal.returns-in-Err-clause-step
returns-in-Err-clause-step c = λ done at. declined _ _ c.args.self.now c.apply.new.self done _ _ c.in-Err.ensures.tables at (c.in-Err.ensures.step done at.stands)
