use Rattle.dc_run_bench.proofs.Benching.{ran_by_script, script_is}
use Rattle.dc_run_bench.proofs.driven.run_certified.Goals as goal

pub run_hub-requires-clause-script : goal.run_hub-requires-clause-script
run_hub-requires-clause-script g c = λ κs within. script_is _ _ _ c.in-Ok.ensures

pub returns-in-Ok-clause-answer : goal.returns-in-Ok-clause-answer
returns-in-Ok-clause-answer g c = ran_by_script _ _ _ _ _ _ c.run_hub.result c.in-Ok.ensures c.run_hub.ensures.answer
