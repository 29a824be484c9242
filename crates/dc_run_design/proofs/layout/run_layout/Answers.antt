use Rattle.std.proofs.Common.{arith}
use Rattle.dc_answer.specs.lemmas.Frames.{finished_quiet}
use Rattle.dc_run_design.specs.Layout.{AnswersLayout}
use Rattle.dc_run_design.proofs.Designing.{any_reported, reported_by}
use Rattle.dc_run_design.proofs.layout.run_layout.Goals as goal

pub returns-clause-reports : goal.returns-clause-reports
returns-clause-reports g c = λ text e.
    reported_by (AnswersLayout text) c.judge-judged.new.page _ _ _ _ c.judge-judged.result _ c.finish.ensures.finishes (c.judge-judged.ensures.answer text e) c.judge-judged.ensures.raises

pub returns-clause-reported : goal.returns-clause-reported
returns-clause-reported g c = any_reported c.judge-judged.new.page _ _ _ _ c.judge-judged.result _ c.finish.ensures.finishes c.judge-judged.ensures.raises

pub returns-clause-quiet : goal.returns-clause-quiet
returns-clause-quiet g c = λ not.
    let still = finished_quiet c.judge-judged.new.page _ _ _ _ c.judge-judged.result _ c.finish.ensures.finishes c.judge-judged.ensures.raises not in
    let silent = c.finish.ensures.quiet not in omega (arith, still, silent)
