use Rattle.std.proofs.Common.{◌∙◌, ap}
use Rattle.dc_cert.specs.NamedRows.{named_rows}
use Rattle.dc_run_margins.proofs.Finding.{obstacle_of}
use Rattle.dc_run_margins.specs.Telling.{told_as}
use Rattle.dc_run_margins.specs.declared.telling.LineKey.TheVariants.{Verdict}
use Rattle.dc_run_margins.proofs.least.judge_obstacle.Goals as goal

pub returns-in-Ok-add_drift : goal.returns-in-Ok-add_drift
returns-in-Ok-add_drift c =
    let kept = c.in_ok-outcome.ensures in
    let got = c.in-Ok.ensures in
    obstacle_of c.args.told c.args.written.now c.tables-tables.result.now c.tables-tables.ensures c.args.fault (named_rows c.in-Ok.reached.certificate) c.in-Ok.reached.jobs c.enclose.new.page
    c.append_reached.new.page c.add_drift.new.page c.in_ok-outcome.outcome (c.requires.none kept.fault) (c.requires.first kept.fault) got.jobs got.reached got.found
    (c.in_ok-enclose.ensures ∙ ap (told_as c.args.told.json Verdict) kept.kept) c.in_ok-append_reached.ensures
    c.in-Ok-add_drift.ensures kept.outcome
