use Rattle.dc_cert.specs.Bounds.{certificate_rows}
use Rattle.dc_run_report.proofs.Observing.{read_observed, refused_observed}
use Rattle.dc_run_report.proofs.observed.load_observed.Goals as goal

pub returns-in-Err-clause-seen : goal.returns-in-Err-clause-seen
returns-in-Err-clause-seen g c = refused_observed _ _ _ _ c.in-Err.ensures.text

pub returns-in-Ok-clause-seen : goal.returns-in-Ok-clause-seen
returns-in-Ok-clause-seen g c =
    read_observed c.args.tables.now (certificate_rows c.args.certificate.now) _ _ _ c.seen_in.result c.as_slice.ensures.value c.in-Ok.ensures.text c.in-Ok.ensures.within c.seen_in.ensures.seen
