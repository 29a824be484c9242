use Rattle.std.proofs.Common.{◌≡◌, rules, subst}
use Rattle.std.specs.Arc.{arc_value}
use Rattle.dc_answer.specs.Judging.{Keeps}
use Rattle.dc_cert.specs.NamedRows.{named_rows}
use Rattle.dc_run.proofs.sharing.share_and_judge.Goals as goal

pub returns-in-Ok-clause-answer : goal.returns-in-Ok-clause-answer
returns-in-Ok-clause-answer g c =
    let shared : arc_value c.in-Ok.tables ≡ c.args.tables = search rules in
    subst (λ t. Keeps (g.J.JudgeShared.answers c.args.judge.now t (named_rows c.args.certificate)) c.keep_shared.new.page c.keep_shared.result) shared c.keep_shared.ensures.answer
