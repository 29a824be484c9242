use Rattle.std.proofs.Common.{inl, inr}
use Rattle.dc_answer.specs.Answer.{Any}
use Rattle.dc_answer.specs.lemmas.Judgments.{some_kept}
use Rattle.dc_answer.specs.lemmas.Frames.{finished, finished_any, hand_on, none_started}
use Rattle.dc_answer.proofs.runner.run.Goals as goal

pub returns-in-Some-clause-reports : goal.returns-in-Some-clause-reports
returns-in-Some-clause-reports g c = λ texts are.
    let judged = c.judge-judged in
    let h = hand_on (g.J.Judge.answers c.args.engine.now tt texts) judged.new.page _ _ judged.result _ c.in-Some.judged c.written.ensures c.in-Some.is (judged.ensures.answer texts are) judged.ensures.raises in
    inl (finished (g.J.Judge.answers c.args.engine.now tt texts) judged.new.page _ _ _ _ c.in-Some.judged _ c.finish.ensures.finishes h.0 h.1)

pub returns-in-Some-clause-reported : goal.returns-in-Some-clause-reported
returns-in-Some-clause-reported g c =
    let judged = c.judge-judged in
    let h = hand_on Any judged.new.page _ _ judged.result _ c.in-Some.judged c.written.ensures c.in-Some.is (some_kept judged.new.page judged.result) judged.ensures.raises in
    inl (finished_any judged.new.page _ _ _ _ c.in-Some.judged _ c.finish.ensures.finishes h.0 h.1)

pub returns-clause-reports : goal.returns-clause-reports
returns-clause-reports g c = λ texts are.
    let judged = c.judge-judged in
    let h = none_started _ _ _ judged.result _ c.written.ensures c.in-None.is judged.ensures.threads judged.ensures.raises in
    inr (h.0, c.end_without_thread.ensures.reports _ _ h.1)

pub returns-clause-reported : goal.returns-clause-reported
returns-clause-reported g c =
    let judged = c.judge-judged in
    let h = none_started _ _ _ judged.result _ c.written.ensures c.in-None.is judged.ensures.threads judged.ensures.raises in
    inr (h.0, c.end_without_thread.ensures.reports _ _ h.1)
