use Rattle.dc_run_report.proofs.Paging.{sought_kept}
use Rattle.dc_run_report.proofs.sought.keep_sought.Goals as goal

pub returns-in-Ok-keep_found : goal.returns-in-Ok-keep_found
returns-in-Ok-keep_found c =
    let kept = c.in_ok-outcome.ensures in
    sought_kept c.args.written.now.tables c.args.fault c.keep_found.new.page c.in_ok-outcome.outcome (c.requires.none kept.fault) (c.requires.first kept.fault) c.in-Ok-keep_found.ensures kept.outcome
