use Rattle.dc_run.proofs.sharing.keep_shared.Goals as goal

pub returns-clause-answer : goal.returns-clause-answer
returns-clause-answer g c = rw c.tell.ensures c.judge_shared-judged.ensures.answer
