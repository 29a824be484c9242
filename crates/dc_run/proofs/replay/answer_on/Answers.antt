use Rattle.std.proofs.Common.{◌≡◌, rules}
use Rattle.dc_answer.specs.Answer.{nothing}
use Rattle.dc_answer.specs.declared.answer.Failure.TheVariants.{Memory}
use Rattle.dc_answer.specs.lemmas.Endings.{none_ends}
use Rattle.dc_run.proofs.ReplayExits.{none_written}
use Rattle.dc_run.proofs.StepLemmas.{stands_first}
use Rattle.dc_run.proofs.replay.answer_on.Goals as goal

pub returns-in_default-clause-answer : goal.returns-in_default-clause-answer
returns-in_default-clause-answer g c = none_written _ _ _ _ _

pub returns-in_default-try_clone-clause-answer : goal.returns-in_default-try_clone-clause-answer
returns-in_default-try_clone-clause-answer g c = none_written _ _ _ _ _

pub returns-in_default-new-clause-answer : goal.returns-in_default-new-clause-answer
returns-in_default-new-clause-answer g c = none_written _ _ _ _ _

pub answer-requires-clause-stands : goal.answer-requires-clause-stands
answer-requires-clause-stands g c = stands_first c.in-Ok-new.core c.in-Ok-new.ensures.stands

pub returns-in_default-clause-some : goal.returns-in_default-clause-some
returns-in_default-clause-some g c = (nothing, none_ends _ Memory)

pub returns-in_default-try_clone-clause-some : goal.returns-in_default-try_clone-clause-some
returns-in_default-try_clone-clause-some g c = (nothing, none_ends _ Memory)

pub returns-in_default-new-clause-some : goal.returns-in_default-new-clause-some
returns-in_default-new-clause-some g c = (nothing, none_ends _ Memory)

pub returns-clause-answer : goal.returns-clause-answer
returns-clause-answer g c =
    let e : c.deref.result.now ≡ c.args.tables = search rules in
    rw e at c.answer.ensures.answer

pub returns-clause-prompt : goal.returns-clause-prompt
returns-clause-prompt g c =
    let e : c.deref.result.now ≡ c.args.tables = search rules in
    rw e at c.answer.ensures.prompt
