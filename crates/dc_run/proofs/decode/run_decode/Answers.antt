use Rattle.dc_run.specs.Decode.{decode_text}
use Rattle.dc_answer.specs.lemmas.Endings.{sink_of}
use Rattle.dc_run.proofs.DecodeExits.{decode_reports}
use Rattle.dc_run.proofs.decode.run_decode.Goals as goal

pub returns-clause-reports : goal.returns-clause-reports
returns-clause-reports g c =
    let ended = c.answer-ended.ensures in
    decode_reports _ _ _ _ (λ text. decode_text c.args.format text) c.answer-ended.result _ _ _ c.report.result ended.answer ended.device
    (sink_of _ _ _ _ c.answer-ended.result ended.cause) c.report.ensures.reports
