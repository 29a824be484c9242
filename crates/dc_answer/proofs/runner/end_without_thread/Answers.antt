use Rattle.std.proofs.Common.{refl}
use Rattle.dc_answer.specs.lemmas.Endings.{reported_left}
use Rattle.dc_answer.specs.lemmas.Frames.{threads_written}
use Rattle.dc_answer.proofs.runner.end_without_thread.Goals as goal

pub returns-clause-reports : goal.returns-clause-reports
returns-clause-reports g c = threads_written _ _ c.new-writer.result c.end_with.result _ _ _ c.new-writer.ensures c.end_with.ensures.bytes c.end_with.ensures.count refl

pub returns-clause-left : goal.returns-clause-left
returns-clause-left g c = reported_left c.end_with.result _ _ _ _ _ refl c.end_with.ensures.count c.end_with.ensures.settled
