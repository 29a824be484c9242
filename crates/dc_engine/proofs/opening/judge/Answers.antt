use Rattle.std.specs.Arc.{arc_value}
use Rattle.std.proofs.Common.{◌≡◌, rules}
use Rattle.dc_engine.proofs.Judged.{judged_both}
use Rattle.dc_engine.proofs.opening.judge.Goals as goal

pub returns : goal.returns
returns c =
    let same : arc_value c.in-Ok-new.tables ≡ c.in-Ok.tables = search rules in
    judged_both c.args.tables.now c.args.certificate.now c.in-Ok.tables (arc_value c.in-Ok-new.tables) c.judge_for.result same c.in-Ok.ensures c.judge_for.ensures
