use Rattle.std.proofs.Common.{◌∙◌, ap, Some}
use Rattle.dc_capture.proofs.CaptureAnswers.{from_any}
use Rattle.dc_capture.proofs.capture_lines.CaptureLines.new.Goals as goal

pub returns-clause-whole : goal.returns-clause-whole
returns-clause-whole c = λ text. c.since.ensures.whole text ∙ ap (λ x. Some x) (from_any c.args.tables.now c.args.limit text)
