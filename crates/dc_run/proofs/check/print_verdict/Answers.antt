use Rattle.dc_cert.specs.NamedRows.{named_rows}
use Rattle.dc_run.proofs.Checking.{accepted_said, refused_said}
use Rattle.dc_run.proofs.check.print_verdict.Goals as goal

pub returns-in-Ok : goal.returns-in-Ok
returns-in-Ok c =
    let claims = named_rows c.args.certificate.now in
    let ok = (c.no_fault_is_acceptance.ensures claims).0 c.in-Ok.ensures.exact in
    accepted_said c.args.tables.now claims _ (c.accepted_certificates_keep_their_claims.ensures claims ok) ok c.in-Ok.ensures.exact c.print_accepted.ensures

pub returns-in-Err : goal.returns-in-Err
returns-in-Err c = refused_said c.args.tables.now (named_rows c.args.certificate.now) _ c.in-Err.fault c.in-Err.ensures.exact c.print_refused.ensures
