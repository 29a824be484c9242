use Rattle.dc_answer.specs.Answer.{nothing}
use Rattle.dc_answer.specs.declared.answer.Failure.TheVariants.{Memory}
use Rattle.dc_answer.specs.lemmas.Endings.{none_ends}
use Rattle.dc_run_trace.proofs.Told.{none_written}
use Rattle.dc_run_trace.proofs.engine.answer_for.Goals as goal

pub returns-in-Err-clause-answer : goal.returns-in-Err-clause-answer
returns-in-Err-clause-answer g c = none_written c.args.tables c.args.from _ _

pub returns-in-Err-clause-some : goal.returns-in-Err-clause-some
returns-in-Err-clause-some g c = (nothing, none_ends _ Memory)
