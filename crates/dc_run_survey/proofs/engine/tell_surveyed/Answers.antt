use Rattle.std.proofs.Common.{◌∙◌, ap}
use Rattle.dc_run_survey.specs.Lines.{parted, survey_lines}
use Rattle.dc_run_survey.proofs.Surveying.{survey_said}
use Rattle.dc_run_survey.proofs.engine.tell_surveyed.Goals as goal

pub returns-in-Ok : goal.returns-in-Ok
returns-in-Ok c = λ from is.
    let r = c.args.surveyed.now in
    survey_said c.args.written.now r _ _ from (c.in-Ok.ensures ∙ ap (λ t. parted (survey_lines t r.survey r.fault)) c.tables.ensures) c.outcome_of.ensures is
