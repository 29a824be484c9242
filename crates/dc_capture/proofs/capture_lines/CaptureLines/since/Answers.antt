use Rattle.dc_capture.proofs.CaptureAnswers.{ahead_at_start}
use Rattle.dc_capture.proofs.capture_lines.CaptureLines.since.Goals as goal

pub returns-clause-whole : goal.returns-clause-whole
returns-clause-whole c = λ text.
    ahead_at_start c.of-buses.result c.args.tables.now c.args.limit c.args.from c.new-line.result.items c.new-reader.result c.of-buses.ensures c.new-line.ensures c.new-reader.ensures.bytes c.new-reader.ensures.room text
