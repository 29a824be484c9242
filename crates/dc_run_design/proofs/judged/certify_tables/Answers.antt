use Rattle.dc_cert.specs.NamedRows.{named_rows}
use Rattle.dc_run_design.proofs.judged.certify_tables.Goals as goal

pub returns-in-Ok-clause-claimed : goal.returns-in-Ok-clause-claimed
returns-in-Ok-clause-claimed c = c.accepted_certificates_keep_their_claims.ensures (named_rows c.in-Ok.certificate) c.in-Ok.ensures.least.accepted
