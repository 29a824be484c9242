use Rattle.std.proofs.Common.{refl}
use Rattle.dc_answer.specs.Answer.{nothing}
use Rattle.dc_answer.specs.Inputs.{tables_end}
use Rattle.dc_answer.specs.lemmas.Endings.{none_ends}
use Rattle.dc_answer.specs.lemmas.Loading.{behind_kept, behind_read}
use Rattle.dc_run.proofs.ReplayReports.{failed_replays, read_prompt, read_replays, refused_replays, refused_some}
use Rattle.dc_run.proofs.replay.replay.Goals as goal

pub returns-clause-answer : goal.returns-clause-answer
returns-clause-answer g c = read_replays _ _ _ _ _ _ _ _ c.in-Ok.ensures.tables c.answer_on.ensures.answer

pub returns-in-Err-Refused-clause-answer : goal.returns-in-Err-Refused-clause-answer
returns-in-Err-Refused-clause-answer g c =
    let loads = rw c.in-Err-Refused.field-0-is at c.in-Err-Refused.ensures.tables in
    let ends = rw c.in-Err-Refused.field-0-is at c.end_unloaded.ensures.bytes in
    refused_replays _ _ _ _ _ _ _ _ _ loads c.requires.new ends

pub returns-in-Err-Failed-clause-answer : goal.returns-in-Err-Failed-clause-answer
returns-in-Err-Failed-clause-answer g c = failed_replays _ _ _ _ _ _

pub returns-clause-order : goal.returns-clause-order
returns-clause-order g c = behind_read _ c.in-Ok.tables _ c.in-Ok.ensures.tables

pub returns-in-Err-Refused-clause-order : goal.returns-in-Err-Refused-clause-order
returns-in-Err-Refused-clause-order g c = behind_kept _ _ refl

pub returns-in-Err-Failed-clause-order : goal.returns-in-Err-Failed-clause-order
returns-in-Err-Failed-clause-order g c = behind_kept _ _ refl

pub returns-in-Err-Refused-clause-some : goal.returns-in-Err-Refused-clause-some
returns-in-Err-Refused-clause-some g c =
    let ends = rw c.in-Err-Refused.field-0-is at c.end_unloaded.ensures.bytes in
    refused_some _ _ _ (tables_end c.in-Err-Refused.fault) c.end_unloaded.result c.requires.new ends

pub returns-in-Err-Failed-clause-some : goal.returns-in-Err-Failed-clause-some
returns-in-Err-Failed-clause-some g c = (nothing, none_ends _ _)

pub returns-clause-prompt : goal.returns-clause-prompt
returns-clause-prompt g c = λ more same. read_prompt _ _ _ _ _ _ _ c.in-Ok.ensures.tables (c.answer_on.ensures.prompt more same)
