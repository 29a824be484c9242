use Rattle.dc_run_network.specs.lemmas.Long.{long-answer}
use Rattle.dc_run_network.proofs.engine.judge_source.Goals as goal

pub returns-in-Err-TooLong-clause-answers : goal.returns-in-Err-TooLong-clause-answers
returns-in-Err-TooLong-clause-answers g c =
    long-answer g.T.Telling.says (g.S.Source.state c.args.system.now).remaining (g.F.Shelf.holds c.args.shelf.now) c.args.folder.now _ c.tell_system_fault.result c.ends.result (rw c.in-Err-TooLong.field-0-is at c.in-Err-TooLong.ensures.bytes) c.tell_system_fault.ensures c.ends.ensures.ends
