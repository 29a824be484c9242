use Rattle.dc_run_margins.proofs.Enclosing.{told_kept, told_raised, told_threads}
use Rattle.dc_run_margins.proofs.told.ToldJudge.judge.Goals as goal

pub returns-clause-answer : goal.returns-clause-answer
returns-clause-answer g c = λ texts are.
    told_kept c.args.self.now.json (g.J.Judge.answers c.args.self.now.plain c.args.known texts) _ _ c.judge-judged.result c.tell_judged.result (c.judge-judged.ensures.answer texts are) c.tell_judged.ensures

pub returns-clause-raises : goal.returns-clause-raises
returns-clause-raises g c =
    told_raised c.args.self.now.json (λ a. Unit {0}) _ _ _ _ c.judge-judged.result c.tell_judged.result c.judge-judged.ensures.raises c.tell_judged.ensures

pub returns-clause-threads : goal.returns-clause-threads
returns-clause-threads g c =
    told_threads c.args.self.now.json (λ a. Unit {0}) _ _ (g.J.Judge.starts_threads c.args.self.now.plain) c.judge-judged.result c.tell_judged.result c.judge-judged.ensures.threads c.tell_judged.ensures
