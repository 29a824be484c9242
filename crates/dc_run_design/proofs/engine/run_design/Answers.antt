use Rattle.std.proofs.Common.{arith}
use Rattle.dc_answer.specs.lemmas.Frames.{finished_quiet}
use Rattle.dc_run_design.specs.Design.{AnswersDesign}
use Rattle.dc_run_design.proofs.Designing.{any_reported, reported_by}
use Rattle.dc_run_design.proofs.engine.run_design.Goals as goal

pub returns-clause-reports : goal.returns-clause-reports
returns-clause-reports g c = λ ins outs e f.
    reported_by (AnswersDesign ins outs c.judge-judged.new.certificate.items) c.judge-judged.new.page _ _ _ _ c.judge-judged.result _ c.finish.ensures.finishes (c.judge-judged.ensures.answer ins outs e f) c.judge-judged.ensures.raises

pub returns-clause-reported : goal.returns-clause-reported
returns-clause-reported g c = any_reported c.judge-judged.new.page _ _ _ _ c.judge-judged.result _ c.finish.ensures.finishes c.judge-judged.ensures.raises

pub returns-clause-quiet : goal.returns-clause-quiet
returns-clause-quiet g c = λ not.
    let still = finished_quiet c.judge-judged.new.page _ _ _ _ c.judge-judged.result _ c.finish.ensures.finishes c.judge-judged.ensures.raises not in
    let silent = c.finish.ensures.quiet not in omega (arith, still, silent)
