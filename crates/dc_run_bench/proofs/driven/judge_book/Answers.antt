use Rattle.dc_run_bench.proofs.Benching.{seen_judged}
use Rattle.dc_run_bench.proofs.driven.judge_book.Goals as goal

pub returns-in-Ok-keep_seen-clause-answer : goal.returns-in-Ok-keep_seen-clause-answer
returns-in-Ok-keep_seen-clause-answer c = seen_judged _ _ c.args.marks _ c.in-Ok.seen _ _ c.in-Ok.ensures c.in-Ok-keep_seen.ensures c.outcome_of.ensures
