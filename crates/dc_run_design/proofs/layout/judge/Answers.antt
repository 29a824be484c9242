use Rattle.dc_run_design.specs.Design.{IsSheet}
use Rattle.dc_run_design.proofs.Designing.{of_known}
use Rattle.dc_run_design.proofs.layout.judge.Goals as goal

pub returns-in-Ok-lay_text-clause-answer : goal.returns-in-Ok-lay_text-clause-answer
returns-in-Ok-lay_text-clause-answer g c = λ text e. c.in-Ok-lay_text.ensures text (of_known (IsSheet c.in-Ok.text) _ text c.in-Ok.ensures.text e)
