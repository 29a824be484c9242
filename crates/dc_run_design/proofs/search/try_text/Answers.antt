use Rattle.dc_cert.specs.NamedRows.{named_rows}
use Rattle.dc_run_design.proofs.Designing.{designed}
use Rattle.dc_run_design.proofs.search.try_text.Goals as goal

pub returns-in-Ok-keep_both : goal.returns-in-Ok-keep_both
returns-in-Ok-keep_both c =
    let of = c.in-Ok-keep_both.ensures in
    designed _ _ _ _ _ (named_rows c.in-Ok.claims) c.in-Ok.ensures of.line of.certificate
