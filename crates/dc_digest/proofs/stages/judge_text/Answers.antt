use Rattle.dc_digest.proofs.Behinds.{behind_kept}
use Rattle.dc_digest.proofs.stages.judge_text.Goals as goal

pub returns-in-Ok-clause-answer : goal.returns-in-Ok-clause-answer
returns-in-Ok-clause-answer g c =
    behind_kept c.args.known.1 (λ certificate. g.J.Judge.answers c.args.judge.now (c.args.known.0, certificate)) c.args.text.now _ _ c.in-Ok.outcome c.with_digests.result c.requires.whole c.in-Ok.ensures.answer c.with_digests.ensures.kept
