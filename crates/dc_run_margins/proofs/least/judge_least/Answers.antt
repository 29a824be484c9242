use Rattle.std.proofs.Common.{subst}
use Rattle.dc_cert.specs.NamedRows.{named_rows}
use Rattle.dc_find.specs.Least.{IsLeastAccepted}
use Rattle.dc_run_margins.proofs.Finding.{found_judged, rows_judged}
use Rattle.dc_run_margins.proofs.least.judge_least.Goals as goal

pub returns-in-Ok : goal.returns-in-Ok
returns-in-Ok c =
    let claims = named_rows c.in-Ok.certificate in
    found_judged c.args.told c.args.written.now claims _ c.judge.result (subst (λ t. IsLeastAccepted t claims) c.tables.ensures c.in-Ok.ensures.least) c.judge.ensures

pub returns-in-Err : goal.returns-in-Err
returns-in-Err c = rows_judged c.args.told c.args.written.now _ c.judge_obstacle.result c.judge_obstacle.ensures
