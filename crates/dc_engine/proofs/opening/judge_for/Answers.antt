use Rattle.std.specs.Arc.{arc_value}
use Rattle.dc_engine.proofs.Judged.{judged_text}
use Rattle.dc_engine.proofs.opening.judge_for.Goals as goal

pub returns : goal.returns
returns c = judged_text (arc_value c.args.tables) c.args.text.now c.in-Ok.certificate c.verdict.result c.in-Ok.ensures c.verdict.ensures
