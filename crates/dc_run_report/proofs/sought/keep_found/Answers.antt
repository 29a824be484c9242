use Rattle.std.proofs.Common.{subst}
use Rattle.dc_run.specs.Find.{obstacle_text}
use Rattle.dc_run_report.specs.Paper.{Holds}
use Rattle.dc_run_report.proofs.Paging.{more_held}
use Rattle.dc_run_report.proofs.sought.keep_found.Goals as goal

pub returns : goal.returns
returns c = more_held _ c.keep_front.new.page _ c.add.new.self (subst (λ t. Holds (obstacle_text t c.args.fault) c.keep_front.new.page) c.tables.ensures c.in_ok-keep_front.ensures) c.in_ok-add.ensures
