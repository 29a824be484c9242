use Rattle.dc_answer.specs.lemmas.Endings.{writes_after}
use Rattle.dc_answer.proofs.answer.end_with.Goals as goal

pub returns-clause-bytes : goal.returns-clause-bytes
returns-clause-bytes g c = writes_after _ _ _ c.args.writer.now _ _ _ c.in_ok-line.ensures.bytes c.flush.ensures.bytes
