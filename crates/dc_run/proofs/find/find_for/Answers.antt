use Rattle.dc_cert.specs.NamedRows.{named_rows}
use Rattle.dc_run.proofs.Finding.{found_judged, obstacle_judged}
use Rattle.dc_run.proofs.find.find_for.Goals as goal

pub returns-in-Ok : goal.returns-in-Ok
returns-in-Ok c =
    let kept = c.keep_certificate.ensures in
    found_judged _ (named_rows c.in-Ok.certificate) _ c.keep_certificate.result c.accepted_certificates_keep_their_claims.ensures c.in-Ok.ensures.least kept.kept kept.outcome

pub returns-in-Err : goal.returns-in-Err
returns-in-Err c =
    let kept = c.tell_obstacle.ensures in
    obstacle_judged _ c.in-Err.fault _ c.tell_obstacle.result c.in-Err.ensures.none c.in-Err.ensures.first kept.kept kept.outcome kept.fault
