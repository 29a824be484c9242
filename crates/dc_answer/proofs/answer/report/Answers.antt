use Rattle.std.proofs.Common.{◌≢◌}
use Rattle.dc_answer.specs.declared.answer.Failure.TheVariants.{Source, Sink, Memory}
use Rattle.dc_answer.specs.lemmas.Endings.{loss_reports, no_sink_failure, reported_left}
use Rattle.dc_answer.proofs.answer.report.Goals as goal

source_not_sink : Source ≢ Sink
source_not_sink e = cc

memory_not_sink : Memory ≢ Sink
memory_not_sink e = cc

pub returns-in-Err-Source-clause-reports : goal.returns-in-Err-Source-clause-reports
returns-in-Err-Source-clause-reports g c = λ old answer before was ends.
    loss_reports _ _ _ answer _ _ Source c.args.writer.now c.end_with.result before _ _ c.in-Err-Source.is (rw c.in-Err-Source.is at c.in-Err-Source.field-0-is) source_not_sink c.requires.seen c.end_with.ensures.bytes c.end_with.ensures.count was ends

pub returns-in-Err-Memory-clause-reports : goal.returns-in-Err-Memory-clause-reports
returns-in-Err-Memory-clause-reports g c = λ old answer before was ends.
    loss_reports _ _ _ answer _ _ Memory c.args.writer.now c.end_with-in-Err-Memory.result before _ _ c.in-Err-Memory.is (rw c.in-Err-Memory.is at c.in-Err-Memory.field-0-is) memory_not_sink c.requires.seen c.end_with-in-Err-Memory.ensures.bytes c.end_with-in-Err-Memory.ensures.count was ends

pub returns-in-Err-Source-clause-left : goal.returns-in-Err-Source-clause-left
returns-in-Err-Source-clause-left g c = λ before was settled.
    reported_left c.end_with.result before _ _ _ _ (no_sink_failure _ Source _ before _ c.in-Err-Source.is (rw c.in-Err-Source.is at c.in-Err-Source.field-0-is) source_not_sink was) c.end_with.ensures.count c.end_with.ensures.settled

pub returns-in-Err-Memory-clause-left : goal.returns-in-Err-Memory-clause-left
returns-in-Err-Memory-clause-left g c = λ before was settled.
    reported_left c.end_with-in-Err-Memory.result before _ _ _ _ (no_sink_failure _ Memory _ before _ c.in-Err-Memory.is (rw c.in-Err-Memory.is at c.in-Err-Memory.field-0-is) memory_not_sink was) c.end_with-in-Err-Memory.ensures.count c.end_with-in-Err-Memory.ensures.settled
