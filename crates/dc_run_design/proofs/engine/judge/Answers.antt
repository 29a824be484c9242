use Rattle.dc_run_design.specs.Design.{IsSheet}
use Rattle.dc_run_design.proofs.Designing.{of_known}
use Rattle.dc_run_design.proofs.engine.judge.Goals as goal

pub returns-in-Ok-design_texts-clause-answer : goal.returns-in-Ok-design_texts-clause-answer
returns-in-Ok-design_texts-clause-answer g c = λ ins outs e f.
    c.in-Ok-design_texts.ensures ins outs (of_known (IsSheet c.in-Ok.first) _ ins c.in-Ok.ensures.text e) (of_known (IsSheet c.in-Ok-read_sheet.second) _ outs c.in-Ok-read_sheet.ensures.text f)
